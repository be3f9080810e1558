-- Named definitions of types: what is declared, what is defined, and which definitions are good.
use Rattle.std.specs.Prelude.{◌≡◌, ◌⊎◌, ◌<◌, ℕ, zero, suc, List, [], ◌∷◌, Option, Some, None, length, map, slice_get}
use Rattle.std.specs.Option.{option_map, option_flatten}
use Rattle.flux_schema.specs.Ty.{Ty, empty, atom, element, any_element, seq, alt, star, named, NamesBelow}

-- a name, as its number in a table of names, and the type that it stands for
pub record Definition : Type 0 where
  pub name : ℕ
  pub body : Ty

-- definitions, each with its place as its index
abbrev pub Definitions : Type 0
Definitions = List Definition

-- a name that is declared, and its body where it has one
pub record Declared : Type 0 where
  pub name : ℕ
  pub body : Option Ty

abbrev pub Declarations : Type 0
Declarations = List Declared

abbrev pub names_of : Definitions → List ℕ
names_of defs = map (λ d. d.name) defs

abbrev pub declared_names : Declarations → List ℕ
declared_names ds = map (λ d. d.name) ds

-- the body at an index, if there is one
abbrev pub body_of : Definitions → ℕ → Option Ty
body_of defs x = option_map (λ d. d.body) (slice_get defs x)

abbrev pub declared_body : Declarations → ℕ → Option Ty
declared_body ds x = option_flatten (option_map (λ d. d.body) (slice_get ds x))

-- the declarations where the name at x has the body t, in place of one that it had
abbrev pub with_body : Declarations → ℕ → Ty → Declarations
with_body [] x t = []
with_body (d ∷ ds) zero t = record { name = d.name; body = Some t } ∷ ds
with_body (d ∷ ds) (suc x) t = d ∷ with_body ds x t

-- the declaration of a name with its body
abbrev pub as_declared : Definition → Declared
as_declared d = record { name = d.name; body = Some d.body }

-- the index x stands in the type outside all its elements
abbrev pub StandsIn : ℕ → Ty → Type 0
StandsIn x empty = ⊥
StandsIn x (atom k) = ⊥
StandsIn x (element n t) = ⊥
StandsIn x (any_element t) = ⊥
StandsIn x (seq t u) = StandsIn x t ⊎ StandsIn x u
StandsIn x (alt t u) = StandsIn x t ⊎ StandsIn x u
StandsIn x (star t) = StandsIn x t
StandsIn x (named y) = x ≡ y

-- y stands in the body of x outside all its elements
abbrev pub Leads : (ℕ → Option Ty) → ℕ → ℕ → Type 0
Leads bodies x y = (t : Ty) × (bodies x ≡ Some t) × StandsIn y t

-- one or more such steps lead from x to y: x reaches y without passing an element
pub data Reaches (bodies : ℕ → Option Ty) : ℕ → ℕ → Type 0 where
  at_once : {x y : ℕ} → Leads bodies x y → Reaches bodies x y
  through : {x : ℕ} (y : ℕ) {z : ℕ} → Leads bodies x y → Reaches bodies y z → Reaches bodies x z

-- different places hold different names
abbrev pub Differ : List ℕ → Type 0
Differ names = (i j n : ℕ) → slice_get names i ≡ Some n → slice_get names j ≡ Some n → i ≡ j

-- each index that the type names is one of the definitions
abbrev pub IsKnown : Definitions → Ty → Type 0
IsKnown defs t = NamesBelow (length defs) t

-- so is each index that a body names
abbrev pub AreKnown : Definitions → Type 0
AreKnown defs = (x : ℕ) (t : Ty) → body_of defs x ≡ Some t → IsKnown defs t

-- good definitions: the names differ, each index that a body names is defined, and no name reaches
-- itself without passing an element
pub record IsGood (defs : Definitions) : Type 0 where
  pub names : Differ (names_of defs)
  pub known : AreKnown defs
  pub guarded : (x : ℕ) → ¬ (Reaches (body_of defs) x x)

-- the name at x has no body
abbrev pub LacksBody : Declarations → ℕ → Type 0
LacksBody ds x = (x < length ds) × (declared_body ds x ≡ None)

-- the name at x reaches itself without passing an element
abbrev pub ReachesItself : Declarations → ℕ → Type 0
ReachesItself ds x = Reaches (declared_body ds) x x

-- the least number of which P holds
pub record IsFirst (P : ℕ → Type 0) (x : ℕ) : Type 0 where
  pub holds : P x
  pub least : (y : ℕ) → y < x → ¬ (P y)

-- the number falls along each step outside elements
abbrev pub FallsAlong : (ℕ → ℕ) → (ℕ → Option Ty) → Type 0
FallsAlong rank bodies = (x y : ℕ) → Leads bodies x y → rank y < rank x
