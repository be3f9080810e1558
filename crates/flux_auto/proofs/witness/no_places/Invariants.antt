use Rattle.std.proofs.Common.{◌≡◌, ℕ, None, length}
use Rattle.flux_auto.specs.Witness.{place}
use Rattle.flux_auto.proofs.witness.no_places.Given as goal

abbrev pub invariant-loop-row : goal.invariant-loop-row
invariant-loop-row l = (length l.places.items ≡ l._row-index) × ((s : ℕ) → place l.places.items s ≡ None)
