use Rattle.std.proofs.Common.{sym, ap, ◌∙◌, take}
use Rattle.flux_grammar.specs.TypeOf.{under_marks}
use Rattle.flux_normal.specs.Written.{extent_of}
use Rattle.flux_normal.proofs.Extents.{under_more}
use Rattle.flux_normal.proofs.written.marked.Goals as goal

pub loop-mark-preserved : goal.loop-mark-preserved
loop-mark-preserved c = λ t e.
    let i = c.loop-mark.mark-index in
    c.under_mark-extent.ensures (under_marks t (take i c.args.marks.now)) (c.loop-mark.invariant t e)
    ∙ ap extent_of (sym (under_more t c.args.marks.now i _ c.loop-mark-test.true))
