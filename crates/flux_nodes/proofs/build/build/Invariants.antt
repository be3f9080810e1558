use Rattle.std.proofs.Common.{length}
use Rattle.flux_forest.specs.Flat.{hedge_of}
use Rattle.flux_nodes.proofs.BuildingLaws.{Building}
use Rattle.flux_nodes.proofs.build.build.Given as goal

abbrev pub invariant-nodes : goal.invariant-nodes
invariant-nodes l =
    Building l.fn.cells l.cells l.last (hedge_of l.fn.nodes.items) l.numbers l.nodes.items

abbrev pub decreases-nodes : goal.decreases-nodes
decreases-nodes l = length l.nodes.items
