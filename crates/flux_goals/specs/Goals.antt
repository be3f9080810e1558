-- Goals: that each forest that a state takes is taken by one of a list of states.
use Rattle.std.specs.Prelude.{◌≡◌, ◌⊎◌, ◌↔◌, ℕ, ◌<◌, List, true, false}
use Rattle.flux_atom.specs.declared.atom.AtomKind.{AtomKind}
use Rattle.flux_trees.specs.Hedge.{Plain}
use Rattle.flux_auto.specs.declared.edge.Edge.{Edge}
use Rattle.flux_auto.specs.declared.edge.Edge.TheVariants.{Atom, Elem, AnyElem}
use Rattle.flux_auto.specs.Takes.{State, takes}
use Rattle.flux_goals.specs.declared.goal.Way.{Way}
use Rattle.flux_auto.specs.Going.{Has, HasEdge}

-- none of the states takes the forest
abbrev pub NoneTakes : List State → List ℕ → Plain → Type 0
NoneTakes a S v = (t : ℕ) → Has S t → takes a t v ≡ false

-- the forest is against the goal: the left state takes it and none of the right ones does
pub record Shows (a : List State) (s : ℕ) (S : List ℕ) (v : Plain) : Type 0 where
  pub taken : takes a s v ≡ true
  pub none : NoneTakes a S v

-- no forest is against the goal
abbrev pub Holds : List State → ℕ → List ℕ → Type 0
Holds a s S = (v : Plain) → Shows a s S v → ⊥

-- each of the states is below n
abbrev pub AllBelow : ℕ → List ℕ → Type 0
AllBelow n S = (t : ℕ) → Has S t → t < n

-- ---- the goals after a tree

-- the edge goes by an atom of the kind to the state r
abbrev pub ByAtom : AtomKind → Edge → ℕ → Type 0
ByAtom k e r = e ≡ Atom k r

-- the edge goes by an element of the label, or of any label, as the way does
abbrev pub ByElement : ℕ → Edge → Way → Type 0
ByElement n e w = (e ≡ Elem n w.content w.rest) ⊎ (e ≡ AnyElem w.content w.rest)

-- the items are those that an edge of one of the states has
abbrev pub AreBy : {X : Type 0} → (Edge → X → Type 0) → List State → List ℕ → List X → Type 0
AreBy {X} P a S R = (q : X) → Has R q ↔ ((t : ℕ) × Has S t × (e : Edge) × HasEdge a t e × P e q)

-- the states that the states S go on to by an atom of the kind
abbrev pub AreRests : List State → AtomKind → List ℕ → List ℕ → Type 0
AreRests a k S R = AreBy (ByAtom k) a S R

-- the ways that the states S go on by with an element of the label
abbrev pub AreWays : List State → ℕ → List ℕ → List Way → Type 0
AreWays a n S ways = AreBy (ByElement n) a S ways

-- each way is taken up by its content, among I, or by its rest, among J
abbrev pub Parts : List Way → List ℕ → List ℕ → Type 0
Parts ways I J = (w : Way) → Has ways w → Has I w.content ⊎ Has J w.rest
