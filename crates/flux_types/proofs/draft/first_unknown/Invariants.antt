use Rattle.std.proofs.Common.{◌<◌, ℕ}
use Rattle.flux_schema.specs.Definitions.{LacksBody}
use Rattle.flux_types.specs.Kept.{declarations_of}
use Rattle.flux_types.proofs.draft.first_unknown.Given as goal

-- each name before has a body
abbrev pub invariant-loop-index : goal.invariant-loop-index
invariant-loop-index l = (x : ℕ) → x < l.index → LacksBody (declarations_of l.entries) x → ⊥
