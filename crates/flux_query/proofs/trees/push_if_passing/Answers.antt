use Rattle.flux_calculus.specs.Tests.{matches}
use Rattle.flux_forest.specs.View.{forest_of}
use Rattle.flux_query.proofs.TreeLaws.{failing}
use Rattle.flux_query.proofs.trees.push_if_passing.Goals as goal

pub returns-else-passes : goal.returns-else-passes
returns-else-passes c =
    failing (matches c.args.test.now (forest_of c.args.tree)) (forest_of c.args.tree) c.args.values.now c.if-passes.ensures
