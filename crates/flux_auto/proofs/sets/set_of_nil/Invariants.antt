use Rattle.std.proofs.Common.{◌≡◌, map}
use Rattle.flux_auto.specs.Built.{state_of}
use Rattle.flux_auto.proofs.ArcLaws.{ends_below}
use Rattle.flux_auto.proofs.sets.set_of_nil.Given as goal

abbrev pub invariant-loop-state : goal.invariant-loop-state
invariant-loop-state l = l.set ≡ ends_below (map state_of l.rows) l.state
