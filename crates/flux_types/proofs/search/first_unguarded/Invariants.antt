use Rattle.std.proofs.Common.{◌<◌, ℕ}
use Rattle.flux_schema.specs.Definitions.{body_of, Reaches}
use Rattle.flux_types.specs.Kept.{definitions_of}
use Rattle.flux_types.proofs.search.first_unguarded.Given as goal

-- no name before reaches itself
abbrev pub invariant-loop-index : goal.invariant-loop-index
invariant-loop-index l = (x : ℕ) → x < l.index → Reaches (body_of (definitions_of l.kept)) x x → ⊥
