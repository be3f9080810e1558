use Rattle.flux_goals.specs.Goals.{ByElement}
use Rattle.flux_goals.proofs.AfterLaws.{read_at, by_more, by_all}
use Rattle.flux_goals.proofs.after.ways_of.Goals as goal

pub edges-requires : goal.edges-requires
edges-requires c = c.requires _ (c.loop-index.index, read_at c.args.right.now c.loop-index.index 0 c.loop-index-test.true)

pub loop-index-preserved : goal.loop-index-preserved
loop-index-preserved c =
    by_more (ByElement c.args.label) c.args.auto.now.states c.args.right.now c.loop-index.index _ c.edges.result.now _ _ c.loop-index.invariant (read_at c.args.right.now c.loop-index.index 0 c.loop-index-test.true) c.edges.ensures c.in_ok-add_ways.ensures

pub returns : goal.returns
returns c = by_all (ByElement c.args.label) c.args.auto.now.states c.args.right.now c.loop-index.index _ c.loop-index-test.false c.loop-index.invariant
