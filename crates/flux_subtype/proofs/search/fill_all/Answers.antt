use Rattle.std.proofs.Common.{◌∙◌, ◌+◌, List, slice_get, sym, ap, subst, inl, inr}
use Rattle.flux_auto.specs.declared.arcs.Leap.{Leap}
use Rattle.flux_subtype.specs.Search.{Tree, MovesBy, Fills}
use Rattle.flux_subtype.proofs.Turning.{next_fill_all, moves_by-grows, Begins}
use Rattle.flux_subtype.proofs.search.fill_all.Goals as goal
use Rattle.flux_subtype.proofs.search.fill_all.Goals.{then-index-before, else-index-before}

pub fill-requires-clause-tree : goal.fill-requires-clause-tree
fill-requires-clause-tree c =
    let at = ap (λ (ts : List Tree). slice_get ts c.loop-index.index) (sym c.loop-index.invariant.0) ∙ sym c.in-Some.ensures.entry in
    moves_by-grows c.args.part.now c.args.found.now.kept.entries c.loop-index.found.kept.entries c.in-Some.head.now c.deref.result.now c.loop-index.invariant.1.grows
    (subst (λ (ls : List Leap). MovesBy c.args.part.now c.args.found.now.kept.entries c.in-Some.head.now ls) (sym c.deref.ensures.value) (c.requires.trees (c.in-Some.leaps.now, c.in-Some.head.now) (c.loop-index.index, at)))

pub loop-index-preserved : goal.loop-index-preserved
loop-index-preserved c =
    let at = ap (λ (ts : List Tree). slice_get ts c.loop-index.index) (sym c.loop-index.invariant.0) ∙ sym c.in-Some.ensures.entry in
    let begins : Begins c.loop-index.index c.args.before c.args.done c.if-index-before.from = elim c.if-index-before.branch [
      | then-index-before w ↦ inl (w.if-index-before.true, w.from-is)
      | else-index-before w ↦ inr w.from-is
    ] in
    let fills = subst (λ (ls : List Leap). Fills c.args.part.now c.loop-index.found.kept.entries c.fill.new.kept.entries c.in-Some.head.now ls c.if-index-before.from (c.args.done + 1)) c.deref.ensures.value c.in_ok-fill.ensures in
    (c.loop-index.invariant.0, next_fill_all _ _ _ _ _ _ _ _ _ (c.in-Some.leaps.now, c.in-Some.head.now) c.requires.done c.requires.answered c.loop-index.invariant.1 at begins fills)
