-- The search for the names that a name reaches.
use Rattle.std.specs.Prelude.{◌≡◌, ◌⊎◌, ◌+◌, ◌<◌, ◌≤◌, ℕ, List, [], ◌∷◌, Option, Bool, length}
use Rattle.flux_schema.specs.Ty.{Ty, empty, atom, element, any_element, seq, alt, star, named}
use Rattle.flux_schema.specs.Definitions.{StandsIn, Leads}
use Rattle.flux_schema.specs.Marks.{IsMarked, unmarked}

abbrev pub IsAmong : ℕ → List ℕ → Type 0
IsAmong y [] = ⊥
IsAmong y (x ∷ xs) = (y ≡ x) ⊎ IsAmong y xs

-- the names that stand in the type outside elements have marks now, and those that had none wait
pub record Visits (t : Ty) (marks marks' : List Bool) (waiting waiting' : List ℕ) : Type 0 where
  pub kept : (y : ℕ) → IsMarked marks y → IsMarked marks' y
  pub reached : (y : ℕ) → StandsIn y t → IsMarked marks' y
  pub waits : (y : ℕ) → IsMarked marks' y → IsMarked marks y ⊎ IsAmong y waiting'
  pub still : (y : ℕ) → IsAmong y waiting → IsAmong y waiting'
  pub only : (y : ℕ) → IsAmong y waiting' → IsAmong y waiting ⊎ StandsIn y t
  pub work : unmarked marks' + length waiting' ≡ unmarked marks + length waiting

-- each index that stands in the type outside its elements has a rank below n
abbrev pub RanksBelow : (ℕ → ℕ) → ℕ → Ty → Type 0
RanksBelow rank n empty = Unit {0}
RanksBelow rank n (atom k) = Unit {0}
RanksBelow rank n (element m t) = Unit {0}
RanksBelow rank n (any_element t) = Unit {0}
RanksBelow rank n (seq t u) = RanksBelow rank n t × RanksBelow rank n u
RanksBelow rank n (alt t u) = RanksBelow rank n t × RanksBelow rank n u
RanksBelow rank n (star t) = RanksBelow rank n t
RanksBelow rank n (named x) = rank x < n

-- no step outside elements leads to a greater rank
abbrev pub NeverRises : (ℕ → ℕ) → (ℕ → Option Ty) → Type 0
NeverRises rank bodies = (x y : ℕ) → Leads bodies x y → rank y ≤ rank x

-- each step from x outside elements leads to a lesser rank
abbrev pub FallsFrom : (ℕ → ℕ) → (ℕ → Option Ty) → ℕ → Type 0
FallsFrom rank bodies x = (y : ℕ) → Leads bodies x y → rank y < rank x
