use Rattle.std.proofs.Common.{◌≡◌, length}
use Rattle.flux_nodes.proofs.RunLaws.{PassedAll}
use Rattle.flux_nodes.proofs.parents.put_parents.Given as goal

abbrev pub invariant-trees : goal.invariant-trees
invariant-trees l =
    (length l.cells ≡ length l.fn.cells) × PassedAll l.fn.cells l.cells l.run l.fn.parent l.at.0 l._step
