-- The type that a written type stands for, where definitions have names.
use Rattle.std.specs.Prelude.{ℕ, ◌==◌, List, [], ◌∷◌, Option, Some, None}
use Rattle.std.specs.List.{position}
use Rattle.std.specs.Option.{option_map}
use Rattle.flux_grammar.specs.declared.tree.Mark.{Mark}
use Rattle.flux_grammar.specs.declared.tree.Repetition.{Repetition}
use Rattle.flux_grammar.specs.declared.tree.Repetition.TheVariants.{Star, Plus, Optional}
use Rattle.flux_grammar.specs.declared.tree.TypeText.{TypeText}
use Rattle.flux_grammar.specs.declared.tree.TypeText.TheOpen.{TypeText-F}
use Rattle.flux_grammar.specs.declared.tree.TypeText.TheFolds.{fold-TypeText}
use Rattle.flux_schema.specs.Definitions.{Definitions, names_of}
use Rattle.flux_schema.specs.Ty.{Ty, empty, atom, element, any_element, seq, alt, star, named}

-- the type that a name names, if a definition has that name
abbrev pub named_by : List ℕ → ℕ → Option Ty
named_by names n = option_map named (position (λ m. m == n) names)

-- `t+` is `t,t*`, `t?` is `t|()`
abbrev pub repeated : Ty → Repetition → Ty
repeated t Star = star t
repeated t Plus = seq t (star t)
repeated t Optional = alt t empty

-- the marks from the first on
abbrev pub under_marks : Ty → List Mark → Ty
under_marks t [] = t
under_marks t (m ∷ ms) = under_marks (repeated t m.repetition) ms

-- a type for each of two parts
abbrev pub both : (Ty → Ty → Ty) → Option Ty → Option Ty → Option Ty
both join (Some t) (Some u) = Some (join t u)
both join _ _ = None

-- lists nest to the right: `a,b,c` is `a,(b,c)`
abbrev pub nested : (Ty → Ty → Ty) → List (Option Ty) → Option Ty
nested join [] = None
nested join (t ∷ []) = t
nested join (t ∷ u ∷ ts) = both join t (nested join (u ∷ ts))

-- `()` and content that is left out are empty
abbrev pub inside : Option (Option Ty) → Option Ty
inside None = Some empty
inside (Some t) = t

abbrev pub type_step : List ℕ → TypeText-F (Option Ty) → Option Ty
type_step names (TypeText-F.Alt ts at) = nested alt ts
type_step names (TypeText-F.Seq ts at) = nested seq ts
type_step names (TypeText-F.Marked t ms at) = option_map (λ u. under_marks u ms) t
type_step names (TypeText-F.Group t at) = inside t
type_step names (TypeText-F.Elem n t at) = option_map (element n) (inside t)
type_step names (TypeText-F.AnyElem t at) = option_map any_element (inside t)
type_step names (TypeText-F.Kind k at) = Some (atom k)
type_step names (TypeText-F.Named n at) = named_by names n

-- none where a name in it is none of these names
abbrev pub type_in : List ℕ → TypeText → Option Ty
type_in names = fold-TypeText (Option Ty) (type_step names)

abbrev pub type_of : Definitions → TypeText → Option Ty
type_of defs = type_in (names_of defs)
