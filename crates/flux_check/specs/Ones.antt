-- Types of one tree, as the checker holds them.
use Rattle.std.specs.Prelude.{◌≡◌, ℕ, Bool, true, false, Option, Some, None}
use Rattle.flux_schema.specs.Ty.{Ty, empty, atom, element, any_element, seq, alt, star, named}
use Rattle.flux_types.specs.Read.{ty_of}
use Rattle.flux_core.specs.declared.measured.Measured.{Measured}
use Rattle.flux_typing.specs.Update.{Verdict, passes, fails, undecided}
use Rattle.flux_check.specs.declared.one.Opened.{Opened}
use Rattle.flux_check.specs.declared.one.Passing.{Passing}
use Rattle.flux_check.specs.declared.one.Passing.TheVariants.{All, Nothing, Labelled}

-- the type that is being made
abbrev pub measured_type : Measured → Ty
measured_type m = ty_of m.ty.value

-- whether the type is an atom type or an element type
abbrev pub is_one : Ty → Bool
is_one empty = false
is_one (atom k) = true
is_one (element n t) = true
is_one (any_element t) = true
is_one (seq t u) = false
is_one (alt t u) = false
is_one (star t) = false
is_one (named x) = false

-- an element type of a label, or of any where none is given
abbrev pub element_type : Option ℕ → Ty → Ty
element_type (Some n) t = element n t
element_type None t = any_element t

-- the type isn't that of an element
abbrev pub IsNoElement : Ty → Type 0
IsNoElement empty = Unit {0}
IsNoElement (atom k) = Unit {0}
IsNoElement (element n t) = ⊥
IsNoElement (any_element t) = ⊥
IsNoElement (seq t u) = Unit {0}
IsNoElement (alt t u) = Unit {0}
IsNoElement (star t) = Unit {0}
IsNoElement (named x) = Unit {0}

-- the label and the content of an element type, if it is one
abbrev pub IsOpened : Ty → Option Opened → Type 0
IsOpened t (Some e) = t ≡ element_type e.label (measured_type e.content)
IsOpened t None = IsNoElement t

abbrev pub verdict_of : Passing → Verdict
verdict_of All = passes
verdict_of Nothing = fails
verdict_of (Labelled n) = undecided n
