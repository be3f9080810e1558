use Rattle.std.proofs.Common.{◌≡◌, ◌++◌, map}
use Rattle.flux_trees.specs.Hedge.{trees, size}
use Rattle.flux_forest.specs.View.{forest_of}
use Rattle.flux_auto.proofs.run.trees_of.Given as goal

abbrev pub invariant-loop-rest : goal.invariant-loop-rest
invariant-loop-rest l = map forest_of l.trees.items ++ trees (forest_of l.rest) ≡ trees (forest_of l.fn.run)

abbrev pub decreases-loop-rest : goal.decreases-loop-rest
decreases-loop-rest l = size (forest_of l.rest)
