-- Profiles that are kept by numbers, and what a tree in front of a forest gives.
use Rattle.std.specs.Prelude.{◌≡◌, ℕ, ◌<◌, ◌≤◌, Bool, List, [], length, slice_index_or, All}
use Rattle.flux_auto.specs.declared.profiles.Profiles.{Profiles}
use Rattle.flux_auto.specs.declared.profiles.Turn.{Turn}
use Rattle.flux_auto.specs.declared.profiles.Turn.TheVariants.{Atom, Elem}
use Rattle.flux_auto.specs.Takes.{State, profile_nil, profile_element, profile_atom}

-- the profiles that are kept, each at its number
abbrev pub profiles_of : Profiles → List (List Bool)
profiles_of p = p.sets.keys

-- the profile with the number
abbrev pub profile_at : List (List Bool) → ℕ → List Bool
profile_at ps n = slice_index_or ps n []

-- the numbers of the tree's content and of the forest behind it are below n
abbrev pub IsWithin : ℕ → Turn → Type 0
IsWithin n (Atom k r) = r < n
IsWithin n (Elem l c r) = (c < n) × (r < n)

-- the profile of the tree and the forest behind it
abbrev pub turned : List State → List (List Bool) → Turn → List Bool
turned states ps (Atom k r) = profile_atom states k (profile_at ps r)
turned states ps (Elem l c r) = profile_element states l (profile_at ps c) (profile_at ps r)

-- the number is that of this profile
pub record Gives (states : List State) (ps : List (List Bool)) (turn : Turn)
    (n : ℕ) : Type 0 where
  pub within : IsWithin (length ps) turn
  pub there : n < length ps
  pub same : profile_at ps n ≡ turned states ps turn

-- the first profile is that of the empty forest, and each number that is remembered is right
pub record AreRight (states : List State) (p : Profiles) : Type 0 where
  pub there : 0 < length (profiles_of p)
  pub nothing : profile_at (profiles_of p) 0 ≡ profile_nil states
  pub turns : All (λ e. Gives states (profiles_of p) e.0 e.1) p.turns.entries

-- each number keeps its profile
pub record Keeps (old new : List (List Bool)) : Type 0 where
  pub longer : length old ≤ length new
  pub same : (n : ℕ) → n < length old → profile_at new n ≡ profile_at old n
