use Rattle.flux_auto.specs.Witness.{Knows}
use Rattle.flux_auto.proofs.worklist.find_along.Given as goal

abbrev pub invariant-loop-place : goal.invariant-loop-place
invariant-loop-place l = Knows l.rows l.other l.known
