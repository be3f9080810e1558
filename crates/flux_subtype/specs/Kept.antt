-- The profiles that are kept, each with how a forest that has it is made.
use Rattle.std.specs.Prelude.{◌≡◌, ◌⊎◌, ℕ, ◌<◌, List, [], ◌∷◌, ◌++◌, Bool, Option, Some, None, length, map, slice_get}
use Rattle.flux_trees.specs.Hedge.{Plain}
use Rattle.flux_auto.specs.declared.recipe.Recipe.{Recipe}
use Rattle.flux_auto.specs.declared.recipe.Recipe.TheVariants.{End, Atom, Elem}
use Rattle.flux_auto.specs.Takes.{State, profile}
use Rattle.flux_auto.specs.Witness.{AreOlder, forests, forest_at}

-- a profile, and the recipe of a forest that has it
abbrev pub Kept : Type 0
Kept = List Bool × Recipe

-- how the forests of the kept profiles are made
abbrev pub recipes : List Kept → List Recipe
recipes ks = map (λ (k : Kept). k.1) ks

-- the forest of a kept profile
abbrev pub forest_of : List Kept → ℕ → Plain
forest_of ks i = forest_at (forests (recipes ks)) i

abbrev pub set_of : Option Kept → List Bool
set_of None = []
set_of (Some k) = k.0

-- a kept profile
abbrev pub set_at : List Kept → ℕ → List Bool
set_at ks i = set_of (slice_get ks i)

-- the recipe is that of an element with the label
abbrev pub IsRecipeLabel : Recipe → ℕ → Type 0
IsRecipeLabel End n = ⊥
IsRecipeLabel (Atom k r) n = ⊥
IsRecipeLabel (Elem m c r) n = n ≡ m

-- so is one of the recipes
abbrev pub IsKeptLabel : List Kept → ℕ → Type 0
IsKeptLabel ks n = (i : ℕ) × (k : Kept) × (slice_get ks i ≡ Some k) × IsRecipeLabel k.1 n

-- each kept profile is that of its forest
pub record AreKept (a : List State) (ks : List Kept) : Type 0 where
  pub older : AreOlder (recipes ks)
  pub profiles : (i : ℕ) → i < length ks → set_at ks i ≡ profile a (forest_of ks i)

-- what was kept is kept
abbrev pub Grows : List Kept → List Kept → Type 0
Grows ks ls = (more : List Kept) × (ls ≡ ks ++ more)

abbrev pub IsKept : List Kept → List Bool → Type 0
IsKept ks p = (i : ℕ) × (i < length ks) × (set_at ks i ≡ p)

-- the profile is kept already, or it is put at the end
abbrev pub Keeps : List Kept → List Bool → Recipe → List Kept → Type 0
Keeps ks p from ls = ((ls ≡ ks) × IsKept ks p) ⊎ (ls ≡ ks ++ (p, from) ∷ [])
