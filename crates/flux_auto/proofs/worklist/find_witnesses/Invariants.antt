use Rattle.flux_auto.specs.Witness.{Knows, unplaced}
use Rattle.flux_auto.proofs.worklist.find_witnesses.Given as goal

abbrev pub invariant-loop-known : goal.invariant-loop-known
invariant-loop-known l = Knows l.rows l.other l.known

abbrev pub decreases-loop-known : goal.decreases-loop-known
decreases-loop-known l = unplaced l.known.places.items
