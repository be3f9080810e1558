use Rattle.std.proofs.Common.{◌∙◌, ℕ, List, length, slice_get, sym, ap, arith}
use Rattle.flux_auto.proofs.Items.{read_is}
use Rattle.flux_subtype.proofs.Turning.{adds_below_next, adds_all}
use Rattle.flux_subtype.proofs.trees.add_elements.Goals as goal

pub loop-index-preserved : goal.loop-index-preserved
loop-index-preserved c =
    let n = c.index-labels-index.result in
    adds_below_next c.args.arcs.now c.args.other c.args.set.now c.args.content _ _ _ c.loop-index.index n c.in_ok-leaps.leaps.items c.loop-index.invariant
    (ap (λ (l : List ℕ). slice_get l c.loop-index.index) (sym c.labels-labels.ensures) ∙ read_is c.labels-labels.result.now c.loop-index.index n n c.loop-index-test.true c.index-labels-index.is) c.in_ok-leaps.ensures c.in_ok-add_tree.ensures

pub returns : goal.returns
returns c = adds_all c.args.arcs.now c.args.other c.args.set.now c.args.content _ _ _ c.loop-index.index c.in_ok-leaps-2.leaps.items (omega (arith, c.loop-index-test.false, ap length c.labels-labels.ensures)) c.loop-index.invariant c.in_ok-leaps-2.ensures c.in_ok-add_tree-2.ensures
