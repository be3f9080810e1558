use Rattle.std.proofs.Common.{ℕ, ◌<◌, ◌≤◌}
use Rattle.flux_subtype.specs.Search.{IsAgainst}
use Rattle.flux_subtype.proofs.search.against.Given as goal

abbrev pub invariant-loop-index : goal.invariant-loop-index
invariant-loop-index l = (i : ℕ) → l.from ≤ i → i < l.index → IsAgainst l.kept.entries l.left l.right i → ⊥
