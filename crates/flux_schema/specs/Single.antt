-- The one atom or element that a type stands for, if it is a type of one tree.
use Rattle.std.specs.Prelude.{◌≡◌, ℕ, Some}
use Rattle.flux_atom.specs.declared.atom.AtomKind.{AtomKind}
use Rattle.flux_schema.specs.Ty.{Ty, atom, element, any_element, named}
use Rattle.flux_schema.specs.Definitions.{Definitions, body_of}

-- `bool`, `string`, `int`, an element type and one of any label stand for themselves, a name for
-- what its body stands for, and no other type for anything
pub data Single (defs : Definitions) : Ty → Ty → Type 0 where
  of_atom : (k : AtomKind) → Single defs (atom k) (atom k)
  of_element : (n : ℕ) (t : Ty) → Single defs (element n t) (element n t)
  of_any : (t : Ty) → Single defs (any_element t) (any_element t)
  of_name : (x : ℕ) {t s : Ty} → body_of defs x ≡ Some t → Single defs t s → Single defs (named x) s

-- the type stands for no atom and no element
abbrev pub IsNotSingle : Definitions → Ty → Type 0
IsNotSingle defs t = (s : Ty) → ¬ (Single defs t s)
