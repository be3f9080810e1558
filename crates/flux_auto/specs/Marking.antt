-- The search for the nullable names.
use Rattle.std.specs.Prelude.{◌≡◌, ℕ, ◌<◌, Bool, true, false, List, Some}
use Rattle.flux_trees.specs.Hedge.{nil}
use Rattle.flux_schema.specs.Ty.{Ty, named}
use Rattle.flux_schema.specs.Definitions.{Definitions, body_of}
use Rattle.flux_schema.specs.Member.{Member}
use Rattle.flux_schema.specs.Marks.{unmarked}
use Rattle.flux_auto.specs.Takes.{has}
use Rattle.flux_auto.specs.Standing.{is_nullable}

-- each marked name is nullable
abbrev pub MarksSound : Definitions → List Bool → Type 0
MarksSound defs nullable = (x : ℕ) → has nullable x ≡ true → Member defs nil (named x)

-- the name x was looked at: marks stay right; where it got one, fewer names are left, and else it
-- has one already or its body isn't nullable
pub record Marked (defs : Definitions) (before after : List Bool) (x : ℕ)
    (found : Bool) : Type 0 where
  pub sound : MarksSound defs before → MarksSound defs after
  pub fewer : found ≡ true → unmarked after < unmarked before
  pub same : found ≡ false → after ≡ before
  pub told : found ≡ false → (t : Ty) → body_of defs x ≡ Some t → is_nullable (has after) t ≡ true
      → has after x ≡ true

-- a round of marking: marks stay right; where there was one more, fewer names are left, and else
-- each name whose body is nullable is marked
pub record Marks (defs : Definitions) (before after : List Bool) (more : Bool) : Type 0 where
  pub sound : MarksSound defs before → MarksSound defs after
  pub fewer : more ≡ true → unmarked after < unmarked before
  pub all : more ≡ false → (x : ℕ) (t : Ty) → body_of defs x ≡ Some t
      → is_nullable (has after) t ≡ true → has after x ≡ true
