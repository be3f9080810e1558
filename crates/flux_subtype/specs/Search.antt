-- The search for all profiles that forests have.
use Rattle.std.specs.Prelude.{◌≡◌, ◌⊎◌, ℕ, ◌<◌, ◌≤◌, ◌+◌, List, ◌++◌, Bool, true, false, Option, Some, None, length, replicate, slice_get, Vec}
use Rattle.std.specs.declared.alloc.Global.{Global}
use Rattle.flux_atom.specs.declared.atom.AtomKind.{AtomKind}
use Rattle.flux_trees.specs.Hedge.{Plain}
use Rattle.flux_trees.specs.Draft.{Draft, done}
use Rattle.flux_trees.specs.Each.{EachLabel}
use Rattle.flux_auto.specs.declared.arcs.Leap.{Leap}
use Rattle.flux_auto.specs.declared.arcs.Arcs.{Arcs}
use Rattle.flux_auto.specs.declared.recipe.Recipe.{Recipe}
use Rattle.flux_auto.specs.declared.recipe.Recipe.TheVariants as recipe
use Rattle.flux_auto.specs.Takes.{State, has, takes, profile_nil, profile_atom, profile_element}
use Rattle.flux_auto.specs.Arcs.{leaps_by, fired}
use Rattle.flux_auto.specs.Going.{Has}
use Rattle.flux_auto.specs.Witness.{IsShownBy}
use Rattle.flux_subtype.specs.declared.trees.Head.{Head}
use Rattle.flux_subtype.specs.declared.trees.Head.TheVariants.{Atom, Elem}
use Rattle.flux_subtype.specs.Kept.{Kept, set_at, IsKeptLabel, AreKept, Grows, IsKept}

-- a tree, by the edges that go by it
abbrev pub Tree : Type 0
Tree = Vec Leap Global × Head

-- the profile of a forest that no state takes
abbrev pub dead : List State → List Bool
dead a = replicate (length a) false

-- the edges are those by an atom of the kind
abbrev pub ByAtom : List State → AtomKind → List Leap → Type 0
ByAtom a k leaps = (q : List Bool) → fired (length a) leaps q ≡ profile_atom a k q

-- the edges are those by an element with the label whose content has the profile
abbrev pub ByElement : List State → ℕ → List Bool → List Leap → Type 0
ByElement a n p leaps = (q : List Bool) → fired (length a) leaps q ≡ profile_element a n p q

-- the edges by the tree are those by its head
abbrev pub MovesBy : List State → List Kept → Head → List Leap → Type 0
MovesBy a ks (Atom k) leaps = ByAtom a k leaps
MovesBy a ks (Elem n c) leaps = (c < length ks) × ByElement a n (set_at ks c) leaps

abbrev pub AreTrees : List State → List Kept → List Tree → Type 0
AreTrees a ks ts = (t : Tree) → Has ts t → MovesBy a ks t.1 t.0.items

-- a tree with the edges is kept
abbrev pub Stands : List Tree → List Leap → Type 0
Stands ts leaps = (t : Tree) × Has ts t × (t.0.items ≡ leaps)

-- trees that were kept are kept
abbrev pub TreesGrow : List Tree → List Tree → Type 0
TreesGrow ts us = (more : List Tree) × (us ≡ ts ++ more)

-- the tree is kept, if no kept tree has its edges
pub record AddsTree (ts us : List Tree) (head : Head) (leaps : List Leap) : Type 0 where
  pub grows : TreesGrow ts us
  pub stands : Stands us leaps
  pub new : (t : Tree) → Has us t → Has ts t ⊎ ((t.1 ≡ head) × (t.0.items ≡ leaps))

-- the head is that of an element with the label
abbrev pub IsHeadLabel : Head → ℕ → Type 0
IsHeadLabel (Atom k) n = ⊥
IsHeadLabel (Elem m c) n = n ≡ m

-- so is one of the trees'
abbrev pub IsTreeLabel : List Tree → ℕ → Type 0
IsTreeLabel ts n = (t : Tree) × Has ts t × IsHeadLabel t.1 n

-- a label that is tried: `other`, or one that is listed
abbrev pub IsTried : Arcs → ℕ → ℕ → Type 0
IsTried arcs other n = (n ≡ other) ⊎ Has arcs.labels.items n

-- the tree is an element with such a label, whose content has the profile p, which is kept at c
abbrev pub IsElementOf : Arcs → ℕ → List Bool → ℕ → Tree → Type 0
IsElementOf arcs other p c t =
    (n : ℕ) × IsTried arcs other n × (t.1 ≡ Elem n c) × (t.0.items ≡ leaps_by arcs n p)

-- the elements of each such label are kept, if no kept trees have their edges
pub record AddsElements (arcs : Arcs) (other : ℕ) (p : List Bool) (c : ℕ) (ts us : List Tree) :
    Type 0 where
  pub grows : TreesGrow ts us
  pub stand : (n : ℕ) → IsTried arcs other n → Stands us (leaps_by arcs n p)
  pub new : (t : Tree) → Has us t → Has ts t ⊎ IsElementOf arcs other p c t

-- elements of each label with the content p have trees
abbrev pub LabelsDone : List State → List Tree → List Bool → Type 0
LabelsDone a ts p = (n : ℕ) → (leaps : List Leap) × ByElement a n p leaps × Stands ts leaps

-- the profile is kept, or it is that of forests that no state takes
abbrev pub IsCovered : List State → List Kept → List Bool → Type 0
IsCovered a ks p = (p ≡ dead a) ⊎ IsKept ks p

-- the tree before the profile q: its profile is kept, or no state takes it
abbrev pub Answered : List State → List Kept → List Leap → List Bool → Type 0
Answered a ks leaps q = IsCovered a ks (fired (length a) leaps q)

-- the trees, one after another, before each profile below n
abbrev pub AllAnswered : List State → List Kept → List Tree → ℕ → Type 0
AllAnswered a ks ts n =
    (t : Tree) (i : ℕ) → Has ts t → i < n → Answered a ks t.0.items (set_at ks i)

-- the first m trees before each profile below n
abbrev pub AnsweredBelow : List State → List Kept → List Tree → ℕ → ℕ → Type 0
AnsweredBelow a ks ts m n = (k i : ℕ) (t : Tree) → k < m → slice_get ts k ≡ Some t → i < n
    → Answered a ks t.0.items (set_at ks i)

-- how a forest of a tree and the forest of a kept profile is made
abbrev pub recipe_of : Head → ℕ → Recipe
recipe_of (Atom k) r = recipe.Atom k r
recipe_of (Elem n c) r = recipe.Elem n c r

-- the tree is put before the profile q
pub record Puts (a : List State) (ks ls : List Kept) (head : Head) (leaps : List Leap)
    (q : List Bool) : Type 0 where
  pub kept : AreKept a ls
  pub grows : Grows ks ls
  pub answered : Answered a ls leaps q
  pub labels : (n : ℕ) → IsKeptLabel ls n → IsKeptLabel ks n ⊎ IsHeadLabel head n

-- the tree is put before the profiles from i on that are below j
pub record Fills (a : List State) (ks ls : List Kept) (head : Head) (leaps : List Leap)
    (i j : ℕ) : Type 0 where
  pub kept : AreKept a ls
  pub grows : Grows ks ls
  pub answered : (k : ℕ) → i ≤ k → k < j → Answered a ls leaps (set_at ls k)
  pub labels : (n : ℕ) → IsKeptLabel ls n → IsKeptLabel ks n ⊎ IsHeadLabel head n

-- the first m trees are put before the profiles up to n
pub record FillsAll (a : List State) (ks ls : List Kept) (ts : List Tree) (n m : ℕ) : Type 0 where
  pub kept : AreKept a ls
  pub grows : Grows ks ls
  pub answered : AnsweredBelow a ls ts m (n + 1)
  pub labels : (b : ℕ) → IsKeptLabel ls b → IsKeptLabel ks b ⊎ IsTreeLabel ts b

-- trees of the profiles below n, and what stands before them
pub record IsDone (a : List State) (ks : List Kept) (ts : List Tree) (n : ℕ) : Type 0 where
  pub kept : AreKept a ks
  pub trees : AreTrees a ks ts
  pub first : IsKept ks (profile_nil a)
  pub kinds : (k : AtomKind) → (leaps : List Leap) × ByAtom a k leaps × Stands ts leaps
  pub labels : (i : ℕ) → i < n → LabelsDone a ts (set_at ks i)
  pub answered : AllAnswered a ks ts n

-- a kept profile or a tree has the label
abbrev pub IsUsed : List Kept → List Tree → ℕ → Type 0
IsUsed ks ts n = IsKeptLabel ks n ⊎ IsTreeLabel ts n

-- each label that is used now was used before, or is one that is shown
abbrev pub LabelsGrow : List State → ℕ → List Kept → List Tree → List Kept → List Tree → Type 0
LabelsGrow a other ks ts ls us = (n : ℕ) → IsUsed ls us n → IsUsed ks ts n ⊎ IsShownBy a other n

-- the profile at n is taken up
pub record Turned (a : List State) (other : ℕ) (ks ls : List Kept) (ts us : List Tree)
    (n : ℕ) : Type 0 where
  pub grows : Grows ks ls
  pub done : IsDone a ls us (n + 1)
  pub labels : LabelsGrow a other ks ts ls us

-- a kept profile with the left state and without the right one
abbrev pub IsAgainst : List Kept → ℕ → ℕ → ℕ → Type 0
IsAgainst ks left right i = (has (set_at ks i) left ≡ true) × (has (set_at ks i) right ≡ false)

-- none: the right state takes all that the left one takes; else a kept profile against it
abbrev pub IsFound : List State → List Kept → ℕ → ℕ → Option ℕ → Type 0
IsFound a ks left right None = (v : Plain) → takes a left v ≡ true → takes a right v ≡ true
IsFound a ks left right (Some i) = AreKept a ks × (i < length ks) × IsAgainst ks left right i

-- none: the right state takes all that the left one takes; else a whole forest that the left state
-- takes and the right one doesn't, each label of which is `other` or that of an edge
abbrev pub IsAnswer : List State → ℕ → ℕ → ℕ → Option (Draft (Unit {0})) → Type 0
IsAnswer a other left right None = (v : Plain) → takes a left v ≡ true → takes a right v ≡ true
IsAnswer a other left right (Some d) =
    (v : Plain) × (d ≡ done v) × (takes a left v ≡ true) × (takes a right v ≡ false)
    × EachLabel (IsShownBy a other) v
