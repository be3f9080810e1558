use Rattle.flux_nodes.proofs.RootLaws.{OnWay}
use Rattle.flux_nodes.proofs.root.root_of.Given as goal

abbrev pub invariant-nodes : goal.invariant-nodes
invariant-nodes l = OnWay l.cells l.fn.node.0 l.at.0 l._step
