use Rattle.flux_nodes.specs.Kept.{held}
use Rattle.flux_nodes.proofs.FreeCalls.{FreeingAll}
use Rattle.flux_nodes.proofs.freeing.free_run.Given as goal

abbrev pub invariant-nodes : goal.invariant-nodes
invariant-nodes l = FreeingAll l.fn.cells l.cells l.fn.free l.run l.at l.tail.0 l.made l.fn.made

abbrev pub decreases-nodes : goal.decreases-nodes
decreases-nodes l = held l.cells
