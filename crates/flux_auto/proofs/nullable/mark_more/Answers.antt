use Rattle.std.proofs.Common.{◌+◌, sym, subst, arith}
use Rattle.flux_auto.specs.Marking.{Marked}
use Rattle.flux_auto.proofs.Marking.{Marking, marking_begins, marking_marks, marking_keeps, marking_ends}
use Rattle.flux_auto.proofs.nullable.mark_more.Goals as goal
use Rattle.flux_auto.proofs.nullable.mark_more.Goals.{then-mark, else-mark}

pub loop-index-init : goal.loop-index-init
loop-index-init c = marking_begins c.args.defs.now c.args.nullable.now c.requires

pub loop-index-preserved : goal.loop-index-preserved
loop-index-preserved c =
    let defs = c.args.defs.now in
    let before = c.args.nullable.now in
    let nullable = c.loop-index.nullable in
    let after = c.mark.new.nullable in
    let i = c.loop-index.index in
    elim c.if-mark.branch [
      | then-mark w ↦ subst (Marking defs before after (i + 1)) (sym w.more-is) (marking_marks defs before nullable after i c.loop-index.more c.loop-index.invariant (subst (Marked defs nullable after i) w.if-mark.true c.mark.ensures) c.mark.auto.nullable)
      | else-mark w ↦ subst (Marking defs before after (i + 1)) (sym w.more-is) (marking_keeps defs before nullable after i c.loop-index.more c.loop-index.invariant (subst (Marked defs nullable after i) w.if-mark.false c.mark.ensures))
    ]

pub returns : goal.returns
returns c = marking_ends c.args.defs.now c.args.nullable.now c.loop-index.nullable c.loop-index.index c.loop-index.more c.loop-index.invariant (omega (arith, c.len-index-end.ensures.count, c.loop-index-test.false))
