-- A table of goals, and how it is filled.
use Rattle.std.specs.Prelude.{◌≡◌, ◌⊎◌, ◌↔◌, ℕ, zero, suc, ◌+◌, ◌-◌, ◌<◌, ◌≤◌, List, [], ◌∷◌, ◌++◌, Bool, true, false, Option, Some, None, length, slice_get}
use Rattle.flux_trees.specs.Hedge.{Plain, nil}
use Rattle.flux_auto.specs.declared.edge.Edge.{Edge}
use Rattle.flux_auto.specs.declared.edge.Edge.TheVariants.{Atom, Elem, AnyElem}
use Rattle.flux_auto.specs.declared.recipe.Recipe.{Recipe}
use Rattle.flux_auto.specs.declared.recipe.Recipe.TheVariants as recipe
use Rattle.flux_auto.specs.Takes.{State}
use Rattle.flux_auto.specs.Witness.{made, forests, forest_at, IsOlder, AreOlder, IsLabelled}
use Rattle.flux_goals.specs.declared.goal.Goal.{Goal}
use Rattle.flux_goals.specs.declared.goal.Way.{Way}
use Rattle.flux_goals.specs.declared.goal.Element.{Element}
use Rattle.flux_goals.specs.declared.table.Table.{Table}
use Rattle.flux_goals.specs.declared.part.Parting.{Parting}
use Rattle.flux_goals.specs.declared.search.Looked.{Looked}
use Rattle.flux_goals.specs.declared.search.Looked.TheVariants.{Against, Stopped, Over}
use Rattle.flux_goals.specs.declared.search.Visited.{Visited}
use Rattle.flux_goals.specs.declared.search.Visited.TheVariants.{Found, Left, Stood}
use Rattle.flux_auto.specs.Going.{Has, HasEdge}
use Rattle.flux_goals.specs.Goals.{Shows, Holds, AllBelow, AreRests, AreWays, Parts}

-- a goal, and the place of the recipe of a forest against it, if one was found
abbrev pub Entry : Type 0
Entry = Goal × Option ℕ

-- ---- goals that rest on others

-- the goal is in the table, and nothing was found against it
abbrev pub Open : List Entry → ℕ → List ℕ → Type 0
Open goals s S =
    (g : Entry) × Has goals g × (g.0.left ≡ s) × (g.0.right.items ≡ S) × (g.1 ≡ None)

-- it is so, or it holds
abbrev pub Fine : List State → List Entry → ℕ → List ℕ → Type 0
Fine a goals s S = Open goals s S ⊎ Holds a s S

-- p tells of which contents an element is to be. None of these is among I
abbrev pub Leaves : (ℕ → Bool) → List ℕ → Type 0
Leaves p I = (d : ℕ) → Has I d → p d ≡ false

-- each of J is the rest of a way whose content is to take the element's
abbrev pub Reaches : (ℕ → Bool) → List Way → List ℕ → Type 0
Reaches p ways J =
    (q : ℕ) → Has J q → (w : Way) × Has ways w × (w.rest ≡ q) × (p w.content ≡ true)

-- and each of T is to take it
abbrev pub TakeAll : (ℕ → Bool) → List ℕ → Type 0
TakeAll p T = (d : ℕ) → Has T d → p d ≡ true

-- where p tells which states take the content, the element isn't against the goal, as a goal of the
-- table is: of the content, or of the rest
abbrev pub Blocked : List State → List Entry → List Way → ℕ → ℕ → (ℕ → Bool) → Type 0
Blocked a goals ways c r p =
    ((I : List ℕ) × Leaves p I × Fine a goals c I)
    ⊎ ((J : List ℕ) × Reaches p ways J × Fine a goals r J)

-- an element of the label n, with the state c for its content and r for the rest, isn't against the
-- goal, whichever states take its content
abbrev pub ElementStands : List State → List Entry → List ℕ → ℕ → ℕ → ℕ → Type 0
ElementStands a goals S n c r =
    (ways : List Way) × AreWays a n S ways × ((p : ℕ → Bool) → Blocked a goals ways c r p)

-- the edge of the left state leads to no forest against the goal, as goals of the table are. Of an
-- element of any label this is said of the label that no edge names: on the right an element of
-- another label is taken at least where this one is
abbrev pub EdgeStands : List State → ℕ → List Entry → List ℕ → Edge → Type 0
EdgeStands a other goals S (Atom k r) = (R : List ℕ) × AreRests a k S R × Fine a goals r R
EdgeStands a other goals S (Elem n c r) = ElementStands a goals S n c r
EdgeStands a other goals S (AnyElem c r) = ElementStands a goals S other c r

-- the goal rests on goals of the table
pub record Stands (a : List State) (other : ℕ) (goals : List Entry) (s : ℕ) (S : List ℕ) :
    Type 0 where
  pub nothing : Shows a s S nil → ⊥
  pub edges : (e : Edge) → HasEdge a s e → EdgeStands a other goals S e

-- ---- a table

-- the forest of the recipe at a place
abbrev pub shown_at : List Recipe → ℕ → Plain
shown_at shown m = forest_at (forests shown) m

-- it is there, and it is against the goal
abbrev pub IsAgainst : List State → List Recipe → ℕ → List ℕ → ℕ → Type 0
IsAgainst a shown s S m = (m < length shown) × Shows a s S (shown_at shown m)

-- what was found is against its goal, and all states are the automaton's
pub record IsTable (a : List State) (other : ℕ) (goals : List Entry) (shown : List Recipe) :
    Type 0 where
  pub older : AreOlder shown
  pub labels : (i : ℕ) (r : Recipe) → slice_get shown i ≡ Some r → IsLabelled a other r
  pub sound : (i : ℕ) (g : Entry) (m : ℕ) → slice_get goals i ≡ Some g → g.1 ≡ Some m
      → IsAgainst a shown g.0.left g.0.right.items m
  pub inside : (i : ℕ) (g : Entry) → slice_get goals i ≡ Some g
      → (g.0.left < length a) × AllBelow (length a) g.0.right.items

-- the goals below n of which nothing was found against them hold
abbrev pub Settled : List State → List Entry → ℕ → Type 0
Settled a goals n = (i : ℕ) (g : Entry) → i < n → slice_get goals i ≡ Some g → g.1 ≡ None
    → Holds a g.0.left g.0.right.items

-- those from n to m stand
abbrev pub StandFrom : List State → ℕ → List Entry → ℕ → ℕ → Type 0
StandFrom a other goals n m =
    (i : ℕ) (g : Entry) → n ≤ i → i < m → slice_get goals i ≡ Some g → g.1 ≡ None
    → Stands a other goals g.0.left g.0.right.items

-- a table of which the goals below a number are settled
pub record IsRight (a : List State) (other : ℕ) (t : Table) : Type 0 where
  pub table : IsTable a other t.goals.entries t.shown.items
  pub settled : Settled a t.goals.entries t.settled
  pub inside : t.settled ≤ length t.goals.entries

-- ---- how a table changes

-- goals were added, and no more was found
abbrev pub Quiet : List Entry → List Entry → Type 0
Quiet gs hs = (more : List Entry) × (hs ≡ gs ++ more)

-- in a table goals alone were added
pub record Asks (old new : Table) : Type 0 where
  pub goals : Quiet old.goals.entries new.goals.entries
  pub shown : new.shown.items ≡ old.shown.items
  pub settled : new.settled ≡ old.settled

-- the same goal, of which more may have been found
pub record Same (g h : Entry) : Type 0 where
  pub left : h.0.left ≡ g.0.left
  pub right : h.0.right.items ≡ g.0.right.items
  pub none : h.1 ≡ None → g.1 ≡ None

-- goals were added, and more may have been found
pub record Grows (gs hs : List Entry) : Type 0 where
  pub long : length gs ≤ length hs
  pub same : (i : ℕ) (g h : Entry) → slice_get gs i ≡ Some g → slice_get hs i ≡ Some h → Same g h

-- a table with more goals, of which more may have been found, and of which no more are settled
pub record Searches (a : List State) (other : ℕ) (old new : Table) : Type 0 where
  pub table : IsTable a other new.goals.entries new.shown.items
  pub goals : Grows old.goals.entries new.goals.entries
  pub shown : length old.shown.items ≤ length new.shown.items
  pub settled : new.settled ≡ old.settled

-- goals were added or more was found
abbrev pub IsMore : Table → Table → Type 0
IsMore old new = length old.goals.entries + length old.shown.items
    < length new.goals.entries + length new.shown.items

-- the goal is at the place
abbrev pub IsAt : List Entry → ℕ → ℕ → List ℕ → Type 0
IsAt goals i s S =
    (g : Entry) × (slice_get goals i ≡ Some g) × (g.0.left ≡ s) × (g.0.right.items ≡ S)

-- ---- how lists of states and ways change

-- the state is added to the set
abbrev pub AddsState : List ℕ → List ℕ → ℕ → Type 0
AddsState old new s = (t : ℕ) → Has new t ↔ (Has old t ⊎ (t ≡ s))

-- the items that the first n edges have are added
abbrev pub AddsBy : {X : Type 0} → (Edge → X → Type 0) → List Edge → ℕ → List X → List X → Type 0
AddsBy {X} P es n old new = (q : X) → Has new q
    ↔ (Has old q ⊎ ((i : ℕ) × (i < n) × (e : Edge) × (slice_get es i ≡ Some e) × P e q))

-- the items that the edge has are added
abbrev pub AddsEdge : {X : Type 0} → (Edge → X → Type 0) → Edge → List X → List X → Type 0
AddsEdge {X} P e old new = (q : X) → Has new q ↔ (Has old q ⊎ P e q)

-- ---- partings of an element's ways

-- the first n of the ways are taken up
abbrev pub PartsBelow : List Way → ℕ → List ℕ → List ℕ → Type 0
PartsBelow ways n I J = (i : ℕ) (w : Way) → i < n → slice_get ways i ≡ Some w
    → Has I w.content ⊎ Has J w.rest

-- the states of the ways are below n
abbrev pub AreInside : ℕ → List Way → Type 0
AreInside n ways = (w : Way) → Has ways w → (w.content < n) × (w.rest < n)

-- those of the element are
pub record IsElement (n : ℕ) (e : Element) : Type 0 where
  pub content : e.content < n
  pub rest : e.rest < n
  pub ways : AreInside n e.ways.items

-- the ways before the place are parted
pub record IsParting (n : ℕ) (ways : List Way) (f : Parting) : Type 0 where
  pub place : f.place ≤ length ways
  pub inner : AllBelow n f.inner.items
  pub outer : AllBelow n f.outer.items
  pub parted : PartsBelow ways f.place f.inner.items f.outer.items

-- so it is where p tells which contents take the element's
pub record Fits (p : ℕ → Bool) (ways : List Way) (f : Parting) : Type 0 where
  pub inner : Leaves p f.inner.items
  pub outer : Reaches p ways f.outer.items
  pub taken : TakeAll p f.taken.items

-- one of the partings is that of p
abbrev pub SomeFits : (ℕ → Bool) → List Way → List Parting → Type 0
SomeFits p ways fs = (f : Parting) × Has fs f × Fits p ways f

-- how many partings of so many ways there can be below one, with it
unfoldable pub partings : ℕ → ℕ
partings zero = 1
partings (suc k) = suc (partings k + partings k)

abbrev pub work_of : List Way → Parting → ℕ
work_of ways f = partings (length ways - f.place)

abbrev pub work : List Way → List Parting → ℕ
work ways [] = 0
work ways (f ∷ fs) = work_of ways f + work ways fs

-- a parting is followed by those with one way more
pub record Branches (ways : List Way) (f : Parting) (old new : List Parting) : Type 0 where
  pub are : (n : ℕ) → AreInside n ways → IsParting n ways f
      → (g : Parting) → Has new g → Has old g ⊎ IsParting n ways g
  pub kept : (g : Parting) → Has old g → Has new g
  pub fits : (p : ℕ → Bool) → Fits p ways f → SomeFits p ways new
  pub less : work ways new < work_of ways f + work ways old

-- ---- answers

-- none: the goal holds or is open; else the forest at a place is against it
abbrev pub IsAsked : List State → List Entry → List Recipe → ℕ → List ℕ → Option ℕ → Type 0
IsAsked a goals shown s S None = Fine a goals s S
IsAsked a goals shown s S (Some m) = IsAgainst a shown s S m

-- none: a goal of the parting holds or is open; else two forests are against them
abbrev pub AreBothAsked : List State → List Entry → List Recipe → Element → Parting →
    Option (ℕ × ℕ) → Type 0
AreBothAsked a goals shown e f None =
    Fine a goals e.content f.inner.items ⊎ Fine a goals e.rest f.outer.items
AreBothAsked a goals shown e f (Some (m, n)) =
    IsAgainst a shown e.content f.inner.items m × IsAgainst a shown e.rest f.outer.items n

-- none: if there are no more than n goals, the element isn't against the goal; else two forests are
-- against the goals of a parting
abbrev pub IsPart : ℕ → List State → List Entry → List Recipe → Element → Option (ℕ × ℕ) → Type 0
IsPart n a goals shown e None =
    length goals ≡ n → (p : ℕ → Bool) → Blocked a goals e.ways.items e.content e.rest p
IsPart k a goals shown e (Some (m, n)) =
    (I : List ℕ) × (J : List ℕ) × Parts e.ways.items I J
    × IsAgainst a shown e.content I m × IsAgainst a shown e.rest J n

-- none: if there are no more than n goals, the element isn't against the goal; else the recipe
-- is of an element and of two forests that are against the goals of a parting
abbrev pub IsElementTried : ℕ → List State → List Entry → List Recipe → Element →
    Option Recipe → Type 0
IsElementTried n a goals shown e None =
    length goals ≡ n → (p : ℕ → Bool) → Blocked a goals e.ways.items e.content e.rest p
IsElementTried n a goals shown e (Some r) =
    (i : ℕ) × (j : ℕ) × (r ≡ recipe.Elem e.label i j) × IsPart n a goals shown e (Some (i, j))

-- a recipe of a forest against the goal
pub record IsFound (a : List State) (other : ℕ) (shown : List Recipe) (s : ℕ) (S : List ℕ)
    (r : Recipe) : Type 0 where
  pub older : IsOlder (length shown) r
  pub labels : IsLabelled a other r
  pub shows : Shows a s S (made (forests shown) r)

-- none: the edge stands, if there are no more than n goals
abbrev pub IsTried : ℕ → List State → ℕ → List Entry → List Recipe → ℕ → List ℕ → Edge →
    Option Recipe → Type 0
IsTried n a other goals shown s S e None = length goals ≡ n → EdgeStands a other goals S e
IsTried n a other goals shown s S e (Some r) = IsFound a other shown s S r

-- ---- visits

-- how far the edges of a goal were tried, over a table that had n goals: a forest against it was
-- found; goals were added; or all edges stand, if the first was tried
abbrev pub AreTried : ℕ → List State → ℕ → List Entry → List Recipe → Goal → ℕ → Looked → Type 0
AreTried n a other goals shown g from (Against r) = IsFound a other shown g.left g.right.items r
AreTried n a other goals shown g from (Stopped edge) = n < length goals
AreTried n a other goals shown g from Over =
    from ≡ 0 → (e : Edge) → HasEdge a g.left e → EdgeStands a other goals g.right.items e

-- how far a goal was looked at: likewise; or it stands, if the first edge was tried
abbrev pub IsLooked : ℕ → List State → ℕ → List Entry → List Recipe → Goal → ℕ → Looked → Type 0
IsLooked n a other goals shown g from (Against r) = IsFound a other shown g.left g.right.items r
IsLooked n a other goals shown g from (Stopped edge) = n < length goals
IsLooked n a other goals shown g from Over =
    from ≡ 0 → Stands a other goals g.left g.right.items

-- the forest is against the goal at the place
abbrev pub IsFoundAt : List State → ℕ → List Entry → List Recipe → ℕ → Recipe → Type 0
IsFoundAt a other goals shown i r =
    (g : Entry) → slice_get goals i ≡ Some g → IsFound a other shown g.0.left g.0.right.items r

-- how a goal was visited from an edge on: more was found; goals were added; or goals alone were
-- added, and it stands if it is open and it was the first edge
abbrev pub IsVisited : List State → ℕ → Table → Table → ℕ → ℕ → Visited → Type 0
IsVisited a other old new i from Found = length old.shown.items < length new.shown.items
IsVisited a other old new i from (Left edge) = length old.goals.entries < length new.goals.entries
IsVisited a other old new i from Stood =
    Quiet old.goals.entries new.goals.entries
    × (from ≡ 0 → (g : Entry) → slice_get new.goals.entries i ≡ Some g → g.1 ≡ None
    → Stands a other new.goals.entries g.0.left g.0.right.items)

-- true: a goal was added or more was found; else goals alone were added, and the one at the place
-- stands if it is open
abbrev pub IsDriven : List State → ℕ → Table → Table → ℕ → Bool → Type 0
IsDriven a other old new i true = IsMore old new
IsDriven a other old new i false = IsVisited a other old new i 0 Stood

-- true: a goal was added or more was found; else all goals that aren't settled stand
abbrev pub IsRound : List State → ℕ → Table → Table → Bool → Type 0
IsRound a other old new true = IsMore old new
IsRound a other old new false =
    StandFrom a other new.goals.entries new.settled (length new.goals.entries)

-- what was found against the goal at the place
abbrev pub FoundAt : List Entry → ℕ → Option ℕ → Type 0
FoundAt goals i o = (g : Entry) × (slice_get goals i ≡ Some g) × (g.1 ≡ o)

-- something was found against the goal at the place, or it is settled
abbrev pub IsDone : Table → ℕ → Type 0
IsDone t i = ((g : Entry) → slice_get t.goals.entries i ≡ Some g → g.1 ≡ None → ⊥) ⊎ (i < t.settled)

-- none: the goal holds; else the forest at a place is against it
abbrev pub IsDecided : List State → List Recipe → ℕ → List ℕ → Option ℕ → Type 0
IsDecided a shown s S None = Holds a s S
IsDecided a shown s S (Some m) = IsAgainst a shown s S m
