use Rattle.flux_auto.specs.Witness.{Knows}
use Rattle.flux_auto.proofs.worklist.try_steps.Given as goal

abbrev pub invariant-loop-step : goal.invariant-loop-step
invariant-loop-step l = Knows l.rows l.other l.known
