use Rattle.std.proofs.Common.{◌≡◌, length, arith, subst}
use Rattle.flux_goals.specs.Goals.{ByAtom}
use Rattle.flux_goals.specs.Table.{AddsBy}
use Rattle.flux_auto.proofs.Items.{read_is}
use Rattle.flux_goals.proofs.AfterLaws.{adds_more}
use Rattle.flux_goals.proofs.after.add_rests.Goals as goal

pub loop-index-preserved : goal.loop-index-preserved
loop-index-preserved c =
    adds_more (ByAtom c.args.kind) c.args.edges.now c.loop-index.index c.index-edges-index.result _ _ _ c.loop-index.invariant
    (read_is c.args.edges.now c.loop-index.index c.index-edges-index.result c.index-edges-index.result c.loop-index-test.true c.index-edges-index.is) c.in_ok-add_rest.ensures

pub returns : goal.returns
returns c =
    let e : c.loop-index.index ≡ length c.args.edges.now = omega arith in
    subst (λ n. AddsBy (ByAtom c.args.kind) c.args.edges.now n c.args.rests.now.items c.loop-index.rests.items) e c.loop-index.invariant
