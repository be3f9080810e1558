use Rattle.flux_auto.proofs.Closing.{Closes}
use Rattle.flux_auto.proofs.close.close_all.Given as goal

abbrev pub invariant-loop-state : goal.invariant-loop-state
invariant-loop-state l = Closes l.defs l.from l.state l.fn.table l.table
