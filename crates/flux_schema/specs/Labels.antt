-- Which labels stand in types and definitions, and which a forest has that is shown.
use Rattle.std.specs.Prelude.{◌≡◌, ◌⊎◌, ℕ, List, Some, Contains}
use Rattle.flux_trees.specs.Hedge.{Plain}
use Rattle.flux_trees.specs.Each.{EachLabel}
use Rattle.flux_schema.specs.Ty.{Ty, empty, atom, element, any_element, seq, alt, star, named}
use Rattle.flux_schema.specs.Definitions.{Definitions, body_of}

-- each label that stands in the type, at any depth, has P. Names aren't followed
abbrev pub EachLabelOf : (ℕ → Type 0) → Ty → Type 0
EachLabelOf P empty = Unit {0}
EachLabelOf P (atom k) = Unit {0}
EachLabelOf P (element n t) = P n × EachLabelOf P t
EachLabelOf P (any_element t) = EachLabelOf P t
EachLabelOf P (seq t u) = EachLabelOf P t × EachLabelOf P u
EachLabelOf P (alt t u) = EachLabelOf P t × EachLabelOf P u
EachLabelOf P (star t) = EachLabelOf P t
EachLabelOf P (named x) = Unit {0}

-- so has each label of the bodies of definitions
abbrev pub EachLabelOfBodies : (ℕ → Type 0) → Definitions → Type 0
EachLabelOfBodies P defs = (x : ℕ) (t : Ty) → body_of defs x ≡ Some t → EachLabelOf P t

-- the label doesn't stand in the type
abbrev pub Lacks : ℕ → Ty → Type 0
Lacks n t = EachLabelOf (λ m. ¬ (m ≡ n)) t

-- nor in any body
abbrev pub BodiesLack : ℕ → Definitions → Type 0
BodiesLack n defs = EachLabelOfBodies (λ m. ¬ (m ≡ n)) defs

-- the label stands in the type, at any depth
abbrev pub IsLabelOf : ℕ → Ty → Type 0
IsLabelOf n empty = ⊥
IsLabelOf n (atom k) = ⊥
IsLabelOf n (element m t) = (n ≡ m) ⊎ IsLabelOf n t
IsLabelOf n (any_element t) = IsLabelOf n t
IsLabelOf n (seq t u) = IsLabelOf n t ⊎ IsLabelOf n u
IsLabelOf n (alt t u) = IsLabelOf n t ⊎ IsLabelOf n u
IsLabelOf n (star t) = IsLabelOf n t
IsLabelOf n (named x) = ⊥

-- it stands in the body of a definition, or in one of the types
abbrev pub IsGiven : Definitions → List Ty → ℕ → Type 0
IsGiven defs ts n =
    ((x : ℕ) × (t : Ty) × (body_of defs x ≡ Some t) × IsLabelOf n t)
    ⊎ ((t : Ty) × Contains ts t × IsLabelOf n t)

-- each label of the forest is this one, or stands in a definition or in one of the types
abbrev pub IsLabelledBy : Definitions → ℕ → List Ty → Plain → Type 0
IsLabelledBy defs other ts v = EachLabel (λ n. (n ≡ other) ⊎ IsGiven defs ts n) v
