use Rattle.flux_nodes.proofs.SpareLaws.{Walked}
use Rattle.flux_nodes.proofs.freeing.nth_free.Given as goal

abbrev pub invariant-steps : goal.invariant-steps
invariant-steps l = Walked l.fn.cells l.fn.free l.at l._step
