-- What the states take, in words: the law of the profiles.
use Rattle.std.specs.Prelude.{◌≡◌, ◌⊎◌, ◌↔◌, ℕ, List, [], ◌∷◌, true, Some, slice_get}
use Rattle.flux_atom.specs.declared.atom.Atom.{Atom as Value}
use Rattle.flux_atom.specs.declared.atom.AtomKind.{AtomKind}
use Rattle.flux_atom.specs.Atom.{kind_of}
use Rattle.flux_trees.specs.Hedge.{Plain, nil, elem, leaf}
use Rattle.flux_auto.specs.declared.edge.Edge.{Edge}
use Rattle.flux_auto.specs.declared.edge.Edge.TheVariants.{Atom, Elem, AnyElem}
use Rattle.flux_auto.specs.Takes.{State, takes}

-- one of the edges does it
abbrev pub SomeEdge : (Edge → Type 0) → List Edge → Type 0
SomeEdge P [] = ⊥
SomeEdge P (e ∷ es) = P e ⊎ SomeEdge P es

-- the edge is an element of the label, or of any label, its first state takes the content and its
-- second the rest
abbrev pub GoesByElement : List State → ℕ → Plain → Plain → Edge → Type 0
GoesByElement states n c r (Atom k q) = ⊥
GoesByElement states n c r (Elem m i q) =
    (m ≡ n) × (takes states i c ≡ true) × (takes states q r ≡ true)
GoesByElement states n c r (AnyElem i q) = (takes states i c ≡ true) × (takes states q r ≡ true)

-- the edge is an atom of the kind, and its state takes the rest
abbrev pub GoesByAtom : List State → AtomKind → Plain → Edge → Type 0
GoesByAtom states k r (Atom j q) = (j ≡ k) × (takes states q r ≡ true)
GoesByAtom states k r (Elem m i q) = ⊥
GoesByAtom states k r (AnyElem i q) = ⊥

-- a state takes the empty forest exactly where it ends, and a tree and a rest exactly where one of
-- its edges goes by them
pub record TakesByEdges (states : List State) : Type 0 where
  pub nothing : (s : ℕ) (state : State) → slice_get states s ≡ Some state
      → (takes states s nil ≡ true) ↔ (state.ends ≡ true)
  pub element : (s : ℕ) (state : State) (n : ℕ) (c r : Plain) → slice_get states s ≡ Some state
      → (takes states s (elem tt n c r) ≡ true) ↔ SomeEdge (GoesByElement states n c r) state.edges
  pub atom : (s : ℕ) (state : State) (x : Value) (r : Plain) → slice_get states s ≡ Some state
      → (takes states s (leaf tt x r) ≡ true)
      ↔ SomeEdge (GoesByAtom states (kind_of x) r) state.edges
