-- Goals that fail, as they are found: by the first tree of a forest, and goals after it.
use Rattle.std.specs.Prelude.{◌≡◌, ◌⊎◌, ◌↔◌, ℕ, List, true}
use Rattle.flux_atom.specs.declared.atom.Atom.{Atom as Value}
use Rattle.flux_atom.specs.Atom.{kind_of}
use Rattle.flux_trees.specs.Hedge.{Plain, nil, elem, leaf}
use Rattle.flux_auto.specs.declared.edge.Edge.TheVariants.{Atom}
use Rattle.flux_auto.specs.Takes.{State, takes}
use Rattle.flux_auto.specs.Automaton.{EdgesInside}
use Rattle.flux_auto.specs.Going.{Has, HasEdge, HasElement}
use Rattle.flux_goals.specs.Goals.{NoneTakes, Shows}

-- what the states S go on to by an atom of the kind is in R
abbrev pub Reach : List State → Value → List ℕ → List ℕ → Type 0
Reach a x S R = (t q : ℕ) → Has S t → HasEdge a t (Atom (kind_of x) q) → Has R q

-- each way of the states S by an element of the label is taken up by its content, among I, or by
-- its rest, among J
abbrev pub PartAll : List State → ℕ → List ℕ → List ℕ → List ℕ → Type 0
PartAll a n S I J = (t d q : ℕ) → Has S t → HasElement a t n d q → Has I d ⊎ Has J q

-- the goal of the state s and the states S fails by the forest
pub data Fails (a : List State) : ℕ → List ℕ → Plain → Type 0 where
  -- the left state ends and none of the right ones does
  by_nothing : (s : ℕ) (S : List ℕ) →
      takes a s nil ≡ true → NoneTakes a S nil → Fails a s S nil
  -- an atom, and a forest by which what follows it on the left fails against all that follows it
  -- on the right
  by_atom : (s : ℕ) (S : List ℕ) (x : Value) (r : ℕ) (R : List ℕ) (w : Plain) →
      HasEdge a s (Atom (kind_of x) r) → Reach a x S R → Fails a r R w →
      Fails a s S (leaf tt x w)
  -- an element: the ways on the right are parted into two groups, either of which may be empty. The
  -- content on the left fails against the contents of the first, and the rest on the left against
  -- the rests of the second
  by_element : (s : ℕ) (S : List ℕ) (n c r : ℕ) (I J : List ℕ) (v w : Plain) →
      HasElement a s n c r → PartAll a n S I J → Fails a c I v → Fails a r J w →
      Fails a s S (elem tt n v w)

-- a goal fails by a forest exactly where the forest is against it
abbrev pub FailsWhereShown : Type 0
FailsWhereShown = (a : List State) → EdgesInside a → (v : Plain) (s : ℕ) (S : List ℕ)
    → Fails a s S v ↔ Shows a s S v
