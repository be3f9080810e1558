use Rattle.std.proofs.Common.{◌≡◌, length, arith, subst}
use Rattle.flux_goals.specs.Goals.{ByElement}
use Rattle.flux_goals.specs.Table.{AddsBy}
use Rattle.flux_auto.proofs.Items.{read_is}
use Rattle.flux_goals.proofs.AfterLaws.{adds_more}
use Rattle.flux_goals.proofs.after.add_ways.Goals as goal

pub loop-index-preserved : goal.loop-index-preserved
loop-index-preserved c =
    adds_more (ByElement c.args.label) c.args.edges.now c.loop-index.index c.index-edges-index.result _ _ _ c.loop-index.invariant
    (read_is c.args.edges.now c.loop-index.index c.index-edges-index.result c.index-edges-index.result c.loop-index-test.true c.index-edges-index.is) c.in_ok-add_way.ensures

pub returns : goal.returns
returns c =
    let e : c.loop-index.index ≡ length c.args.edges.now = omega arith in
    subst (λ n. AddsBy (ByElement c.args.label) c.args.edges.now n c.args.ways.now.items c.loop-index.ways.items) e c.loop-index.invariant
