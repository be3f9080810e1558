use Rattle.std.proofs.Common.{◌≡◌, ◌↔◌, length}
use Rattle.flux_forest.proofs.node.are_same.Given as goal

abbrev pub invariant-loop-node : goal.invariant-loop-node
invariant-loop-node l =
    (length l.node-iterator.a.rest.now ≡ length l.node-iterator.b.rest.now) × ((l.nodes ≡ l.others) ↔ (l.node-iterator.a.rest.now ≡ l.node-iterator.b.rest.now))
