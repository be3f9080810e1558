use Rattle.std.proofs.Common.{◌+◌, ◌*◌, map}
use Rattle.flux_trees.specs.Hedge.{size}
use Rattle.flux_forest.specs.View.{forest_of}
use Rattle.flux_trees.proofs.HedgeLaws.{steps_left}
use Rattle.flux_top.proofs.Pruned.{IsPruning}
use Rattle.flux_top.proofs.delete.deleted.Given as goal

abbrev pub invariant-loop-outer : goal.invariant-loop-outer
invariant-loop-outer l = IsPruning l.fn.path (forest_of l.fn.view) l.result (forest_of l.rest) (map forest_of l.outer.items)

abbrev pub decreases-loop-outer : goal.decreases-loop-outer
decreases-loop-outer l = 2 * size (forest_of l.rest) + steps_left (map forest_of l.outer.items)
