-- When each fault of definitions comes.
use Rattle.std.specs.Prelude.{◌≡◌, ℕ, Some, slice_get}
use Rattle.flux_schema.specs.Definitions.{Declarations, declared_names, LacksBody, ReachesItself, IsFirst}
use Rattle.flux_types.specs.declared.draft.DefFault.{DefFault}
use Rattle.flux_types.specs.declared.draft.DefFault.TheVariants.{Duplicate, Unknown, Unguarded, Memory}

-- of a name that is declared again: its index. No body is missing yet, and none is looked at
abbrev pub DeclareFault : Declarations → ℕ → DefFault → Type 0
DeclareFault ds name (Duplicate x) = slice_get (declared_names ds) x ≡ Some name
DeclareFault ds name (Unknown x) = ⊥
DeclareFault ds name (Unguarded x) = ⊥
DeclareFault ds name (Memory e) = (x : ℕ) → ¬ (slice_get (declared_names ds) x ≡ Some name)

-- of a draft that is closed: the first name without a body, or, where each has one, the first name
-- that reaches itself
abbrev pub CloseFault : Declarations → DefFault → Type 0
CloseFault ds (Duplicate x) = ⊥
CloseFault ds (Unknown x) = IsFirst (LacksBody ds) x
CloseFault ds (Unguarded x) = ((y : ℕ) → ¬ (LacksBody ds y)) × IsFirst (ReachesItself ds) x
CloseFault ds (Memory e) = (y : ℕ) → ¬ (LacksBody ds y)
