use Rattle.std.proofs.Common.{◌≡◌, take}
use Rattle.flux_auto.specs.Arcs.{fired}
use Rattle.flux_auto.proofs.sets.fired.Given as goal

abbrev pub invariant-loop-leap : goal.invariant-loop-leap
invariant-loop-leap l = l.set ≡ fired l.states (take l.leap-index l.leaps) l.rest
