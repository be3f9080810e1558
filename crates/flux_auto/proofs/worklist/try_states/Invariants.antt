use Rattle.flux_auto.specs.Witness.{Knows}
use Rattle.flux_auto.proofs.worklist.try_states.Given as goal

abbrev pub invariant-loop-state : goal.invariant-loop-state
invariant-loop-state l = Knows l.rows l.other l.known
