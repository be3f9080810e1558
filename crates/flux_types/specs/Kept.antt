-- The definitions that the structs of this crate hold.
use Rattle.std.specs.Prelude.{◌≡◌, ◌<◌, ◌^◌, ℕ, List, Some, length, map}
use Rattle.std.specs.Option.{option_map}
use Rattle.flux_schema.specs.Ty.{Ty, empty, atom, element, any_element, seq, alt, star, named, NamesBelow, IsWithinLimits}
use Rattle.flux_schema.specs.Definitions.{Definition, Definitions, Declared, Declarations, body_of, declared_names, declared_body, Differ, IsGood}
use Rattle.flux_types.specs.declared.defs.Kept.{Kept}
use Rattle.flux_types.specs.declared.draft.Entry.{Entry}
use Rattle.flux_types.specs.Read.{ty_of}

abbrev pub definition_of : Kept → Definition
definition_of d = record { name = d.name; body = ty_of d.body }

abbrev pub definitions_of : List Kept → Definitions
definitions_of ds = map definition_of ds

abbrev pub declared_of : Entry → Declared
declared_of e = record { name = e.name; body = option_map ty_of e.body }

abbrev pub declarations_of : List Entry → Declarations
declarations_of es = map declared_of es

-- a body under n names: within the limits, and each index that it names is below n
pub record IsBody (n : ℕ) (t : Ty) : Type 0 where
  pub known : NamesBelow n t
  pub limits : IsWithinLimits t

-- a draft: fewer than 2^32 names that differ, and bodies that name declared indices
pub record IsDraft (ds : Declarations) : Type 0 where
  pub few : length ds < 2 ^ 32
  pub names : Differ (declared_names ds)
  pub bodies : (x : ℕ) (t : Ty) → declared_body ds x ≡ Some t → IsBody (length ds) t

-- definitions as `Defs` keeps them: fewer than 2^32 good ones, with bodies within the limits
pub record AreKept (defs : Definitions) : Type 0 where
  pub few : length defs < 2 ^ 32
  pub good : IsGood defs
  pub limits : (x : ℕ) (t : Ty) → body_of defs x ≡ Some t → IsWithinLimits t

-- where the type is itself a name, it is the name of a definition
abbrev pub IsKnownAtTop : Definitions → Ty → Type 0
IsKnownAtTop defs empty = Unit {0}
IsKnownAtTop defs (atom k) = Unit {0}
IsKnownAtTop defs (element n t) = Unit {0}
IsKnownAtTop defs (any_element t) = Unit {0}
IsKnownAtTop defs (seq t u) = Unit {0}
IsKnownAtTop defs (alt t u) = Unit {0}
IsKnownAtTop defs (star t) = Unit {0}
IsKnownAtTop defs (named x) = x < length defs
