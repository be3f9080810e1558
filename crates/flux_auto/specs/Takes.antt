-- The states of an automaton over forests, and what they take.
use Rattle.std.specs.Prelude.{ℕ, ◌<◌, List, [], ◌∷◌, Bool, false, ◌&&◌, ◌==◌, map, slice_index_or}
use Rattle.std.specs.List.{list_any}
use Rattle.flux_atom.specs.declared.atom.AtomKind.{AtomKind}
use Rattle.flux_atom.specs.Atom.{kind_of}
use Rattle.flux_trees.specs.Hedge.{Plain, nil, elem, leaf}
use Rattle.flux_schema.specs.Tidy.{same_kind}
use Rattle.flux_auto.specs.declared.edge.Edge.{Edge}
use Rattle.flux_auto.specs.declared.edge.Edge.TheVariants.{Atom, Elem, AnyElem}

-- a state: whether it ends, and the trees that it goes on by
pub record State : Type 0 where
  pub ends : Bool
  pub edges : List Edge

-- The profile of a forest is the set of the states that take it: a truth value for each, in order.

-- whether a state is in it; states that aren't there take nothing
abbrev pub has : List Bool → ℕ → Bool
has p s = slice_index_or p s false

-- an edge goes by an element with a label, where p is the profile of its content and q that of the
-- trees after it
abbrev pub goes_by_element : ℕ → List Bool → List Bool → Edge → Bool
goes_by_element n p q (Atom k r) = false
goes_by_element n p q (Elem m c r) = (m == n) && (has p c && has q r)
goes_by_element n p q (AnyElem c r) = has p c && has q r

-- an edge goes by an atom of a kind, where q is the profile of the trees after it
abbrev pub goes_by_atom : AtomKind → List Bool → Edge → Bool
goes_by_atom k q (Atom j r) = same_kind j k && has q r
goes_by_atom k q (Elem m c r) = false
goes_by_atom k q (AnyElem c r) = false

-- a state takes the empty forest exactly where it ends
abbrev pub profile_nil : List State → List Bool
profile_nil states = map (λ s. s.ends) states

-- it takes an element and the trees after it exactly where one of its edges goes by them
abbrev pub profile_element : List State → ℕ → List Bool → List Bool → List Bool
profile_element states n p q = map (λ s. list_any (goes_by_element n p q) s.edges) states

-- and an atom and the trees after it likewise
abbrev pub profile_atom : List State → AtomKind → List Bool → List Bool
profile_atom states k q = map (λ s. list_any (goes_by_atom k q) s.edges) states

-- which states take the forest
abbrev pub profile : List State → Plain → List Bool
profile states nil = profile_nil states
profile states (elem _ n c r) = profile_element states n (profile states c) (profile states r)
profile states (leaf _ x r) = profile_atom states (kind_of x) (profile states r)

-- A state takes the empty forest exactly where it ends. It takes a tree and a rest exactly where
-- one of its edges is an atom of the tree's kind whose state takes the rest, or an element of its
-- label, or of any label, whose first state takes its content and whose second takes the rest.
abbrev pub takes : List State → ℕ → Plain → Bool
takes states s v = has (profile states v) s

-- the states that an edge names are below n
abbrev pub EdgeBelow : ℕ → Edge → Type 0
EdgeBelow n (Atom k r) = r < n
EdgeBelow n (Elem m c r) = (c < n) × (r < n)
EdgeBelow n (AnyElem c r) = (c < n) × (r < n)

abbrev pub EdgesBelow : ℕ → List Edge → Type 0
EdgesBelow n [] = Unit {0}
EdgesBelow n (e ∷ es) = EdgeBelow n e × EdgesBelow n es
