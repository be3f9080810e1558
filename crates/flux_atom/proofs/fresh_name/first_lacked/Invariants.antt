use Rattle.std.proofs.Common.{◌≡◌, ◌<◌, ℕ, true, bytes_eq}
use Rattle.std.specs.List.{list_any}
use Rattle.flux_atom.specs.Fresh.{candidate}
use Rattle.flux_atom.proofs.fresh_name.first_lacked.Given as goal

abbrev pub invariant-loop-number : goal.invariant-loop-number
invariant-loop-number l = (k : ℕ) → k < l.number → list_any (bytes_eq (candidate k)) l.names ≡ true
