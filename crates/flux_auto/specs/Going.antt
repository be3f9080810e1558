-- How the states of an automaton go on, tree by tree.
use Rattle.std.specs.Prelude.{◌≡◌, ◌⊎◌, ℕ, List, true, Some, slice_get}
use Rattle.flux_atom.specs.Atom.{kind_of}
use Rattle.flux_trees.specs.Hedge.{Plain, nil, elem, leaf}
use Rattle.flux_auto.specs.declared.edge.Edge.{Edge}
use Rattle.flux_auto.specs.declared.edge.Edge.TheVariants.{Atom, Elem, AnyElem}
use Rattle.flux_auto.specs.Takes.{State, takes}

-- the list has the item, at some place
abbrev pub Has : {X : Type 0} → List X → X → Type 0
Has xs x = (k : ℕ) × (slice_get xs k ≡ Some x)

-- the state has the edge
abbrev pub HasEdge : List State → ℕ → Edge → Type 0
HasEdge a s e = (state : State) × (slice_get a s ≡ Some state) × Has state.edges e

-- the state goes by an element of the label, or of any label
abbrev pub HasElement : List State → ℕ → ℕ → ℕ → ℕ → Type 0
HasElement a s n c r = HasEdge a s (Elem n c r) ⊎ HasEdge a s (AnyElem c r)

-- no edge is by an element with the label alone
abbrev pub LacksEdge : List State → ℕ → Type 0
LacksEdge a n = (s c r : ℕ) → HasEdge a s (Elem n c r) → ⊥

-- the state s goes by the first tree of the forest to the state r: by an atom of the tree's kind,
-- or by an element of its label, or of any, whose state takes the content
abbrev pub Goes : List State → ℕ → Plain → ℕ → Type 0
Goes a s nil r = ⊥
Goes a s (elem _ n v w) r = (c : ℕ) × HasElement a s n c r × (takes a c v ≡ true)
Goes a s (leaf _ x w) r = HasEdge a s (Atom (kind_of x) r)
