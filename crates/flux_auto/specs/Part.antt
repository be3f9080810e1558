-- The states of an automaton that some states lead to, numbered anew.
use Rattle.std.specs.Prelude.{◌≡◌, ℕ, ◌≤◌, List, ◌++◌, length, Some, slice_get, All}
use Rattle.flux_trees.specs.Hedge.{Plain, nil}
use Rattle.flux_auto.specs.declared.edge.Edge.{Edge}
use Rattle.flux_auto.specs.declared.edge.Edge.TheVariants.{Atom, Elem, AnyElem}
use Rattle.flux_auto.specs.declared.part.Numbers.{Numbers}
use Rattle.flux_auto.specs.Takes.{State, takes}
use Rattle.flux_auto.specs.Going.{Has, HasEdge}
use Rattle.flux_auto.specs.Witness.{IsEdgeLabel}

-- the states of the list are the first of the part, in order: each takes there what it takes in the
-- whole. A label of an edge in the part is one in the whole.
pub record IsPartOf (a : List State) (firsts : List ℕ) (part : List State) : Type 0 where
  pub starts : (i s : ℕ) (v : Plain) → slice_get firsts i ≡ Some s → takes part i v ≡ takes a s v
  pub labels : (n : ℕ) → IsEdgeLabel part n → IsEdgeLabel a n

-- the old state s has the number n
abbrev pub IsNumber : List ℕ → ℕ → ℕ → Type 0
IsNumber olds s n = slice_get olds n ≡ Some s

-- each number that is looked up is one
abbrev pub AreNumbered : Numbers → Type 0
AreNumbered numbers = All (λ e. IsNumber numbers.olds.items e.0 e.1) numbers.news.entries

-- numbers were given to more states
abbrev pub MoreNumbered : Numbers → Numbers → Type 0
MoreNumbered old new = (more : List ℕ) × (new.olds.items ≡ old.olds.items ++ more)

-- an edge with the numbers of its states
abbrev pub IsRenamed : List ℕ → Edge → Edge → Type 0
IsRenamed olds (Atom k r) f = (q : ℕ) × (f ≡ Atom k q) × IsNumber olds r q
IsRenamed olds (Elem m c r) f =
    (d : ℕ) × (q : ℕ) × (f ≡ Elem m d q) × IsNumber olds c d × IsNumber olds r q
IsRenamed olds (AnyElem c r) f =
    (d : ℕ) × (q : ℕ) × (f ≡ AnyElem d q) × IsNumber olds c d × IsNumber olds r q

-- edges with the numbers of their states, and no others
pub record AreRenamed (olds : List ℕ) (es fs : List Edge) : Type 0 where
  pub each : (e : Edge) → Has es e → (f : Edge) × Has fs f × IsRenamed olds e f
  pub only : (f : Edge) → Has fs f → (e : Edge) × Has es e × IsRenamed olds e f

-- a state as it is in the part: it takes the empty forest where the old one does, and has its edges
pub record IsCopied (olds : List ℕ) (a : List State) (s : ℕ) (copy : State) : Type 0 where
  pub ends : copy.ends ≡ takes a s nil
  pub each : (e : Edge) → HasEdge a s e → (f : Edge) × Has copy.edges f × IsRenamed olds e f
  pub only : (f : Edge) → Has copy.edges f → (e : Edge) × HasEdge a s e × IsRenamed olds e f

-- the copies of the states that have numbers, in order, as far as they were made
pub record AreCopied (a : List State) (olds : List ℕ) (part : List State) : Type 0 where
  pub behind : length part ≤ length olds
  pub copied : (i s : ℕ) (copy : State) → slice_get olds i ≡ Some s → slice_get part i ≡ Some copy
      → IsCopied olds a s copy
