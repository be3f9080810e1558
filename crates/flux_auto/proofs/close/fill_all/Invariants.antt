use Rattle.flux_auto.proofs.Closing.{Fills}
use Rattle.flux_auto.proofs.close.fill_all.Given as goal

abbrev pub invariant-loop-state : goal.invariant-loop-state
invariant-loop-state l = Fills l.defs l.from l.end l.state l.fn.table l.table
