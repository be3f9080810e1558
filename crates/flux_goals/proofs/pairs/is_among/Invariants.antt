use Rattle.std.proofs.Common.{◌≡◌, ℕ, ◌<◌, slice_get, Some}
use Rattle.flux_types.specs.Read.{ty_of}
use Rattle.flux_goals.specs.declared.pairs.Pair.{Pair}
use Rattle.flux_goals.specs.Known.{pair_of}
use Rattle.flux_goals.proofs.pairs.is_among.Given as goal

abbrev pub invariant-loop-index : goal.invariant-loop-index
invariant-loop-index l = (k : ℕ) (p : Pair) → k < l.index → slice_get l.pairs k ≡ Some p → pair_of p ≡ (ty_of l.left, ty_of l.right) → ⊥
