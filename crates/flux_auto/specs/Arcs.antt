-- The edges of the states, by the trees that they go by.
use Rattle.std.specs.Prelude.{◌≡◌, ◌⊎◌, ◌↔◌, ℕ, zero, suc, List, [], ◌∷◌, ◌++◌, Bool, true, ◌&&◌, if◌then◌else◌, Vec}
use Rattle.std.specs.List.{list_any}
use Rattle.std.specs.declared.alloc.Global.{Global}
use Rattle.flux_atom.specs.declared.atom.AtomKind.{AtomKind}
use Rattle.flux_atom.specs.declared.atom.AtomKind.TheVariants as kind
use Rattle.flux_auto.specs.declared.edge.Edge.{Edge}
use Rattle.flux_auto.specs.declared.edge.Edge.TheVariants.{Atom, Elem, AnyElem}
use Rattle.flux_auto.specs.declared.arcs.Arc.{Arc}
use Rattle.flux_auto.specs.declared.arcs.Leap.{Leap}
use Rattle.flux_auto.specs.declared.arcs.Arcs.{Arcs}
use Rattle.flux_auto.specs.Takes.{State, has}
use Rattle.flux_auto.specs.Set.{told, in_block, with_block}
use Rattle.flux_auto.specs.Going.{Has, HasEdge}

-- An arc stands for edges: one from each state of its block, to its content and its next state. So
-- does a leap, where the tree is known.

-- one of the arc's edges leaves the state s and has the content c and the next state r
abbrev pub IsArc : Arc → ℕ → ℕ → ℕ → Type 0
IsArc a s c r = (in_block a.sources s ≡ true) × (a.content ≡ c) × (a.next ≡ r)

abbrev pub IsLeap : Leap → ℕ → ℕ → Type 0
IsLeap l s r = (in_block l.sources s ≡ true) × (l.next ≡ r)

-- so does an edge of one of the arcs
abbrev pub HasArc : List Arc → ℕ → ℕ → ℕ → Type 0
HasArc arcs s c r = (a : Arc) × Has arcs a × IsArc a s c r

abbrev pub HasLeap : List Leap → ℕ → ℕ → Type 0
HasLeap leaps s r = (l : Leap) × Has leaps l × IsLeap l s r

-- the edges of an arc were added, and no others
abbrev pub ArcMore : List Arc → Arc → List Arc → Type 0
ArcMore old a new = (s c r : ℕ) → HasArc new s c r ↔ (HasArc old s c r ⊎ IsArc a s c r)

abbrev pub LeapMore : List Leap → Leap → List Leap → Type 0
LeapMore old l new = (s r : ℕ) → HasLeap new s r ↔ (HasLeap old s r ⊎ IsLeap l s r)

-- what stands at a label; nothing past the end
abbrev pub arcs_at : List (Vec Arc Global) → ℕ → List Arc
arcs_at [] n = []
arcs_at (v ∷ vs) zero = v.items
arcs_at (v ∷ vs) (suc n) = arcs_at vs n

-- what stands at a kind
abbrev pub leaps_at : Arcs → AtomKind → List Leap
leaps_at a kind.Bool = a.truths.items
leaps_at a kind.Text = a.texts.items
leaps_at a kind.Int = a.numbers.items

-- a label is listed before its first edge is put at it
abbrev pub Lists : List ℕ → List ℕ → ℕ → List Arc → Type 0
Lists old new n arcs = ((arcs ≡ []) × (new ≡ old ++ n ∷ [])) ⊎ ((arcs ≡ [] → ⊥) × (new ≡ old))

-- each label is listed that has edges
abbrev pub AreListed : Arcs → Type 0
AreListed a = (n : ℕ) → (arcs_at a.by_label.items n ≡ []) ⊎ Has a.labels.items n

-- the state t is s, and the edge is one of these
abbrev pub Leaves : ℕ → List Edge → ℕ → Edge → Type 0
Leaves s edges t e = (t ≡ s) × Has edges e

-- the edges of the state s were added, each at its label, at any label or at its kind, and no
-- others
pub record Adds (old new : Arcs) (s : ℕ) (edges : List Edge) : Type 0 where
  pub arcs : (n t c r : ℕ) → HasArc (arcs_at new.by_label.items n) t c r
      ↔ (HasArc (arcs_at old.by_label.items n) t c r ⊎ Leaves s edges t (Elem n c r))
  pub any : (t c r : ℕ) → HasArc new.any_label.items t c r
      ↔ (HasArc old.any_label.items t c r ⊎ Leaves s edges t (AnyElem c r))
  pub leaps : (k : AtomKind) (t r : ℕ) → HasLeap (leaps_at new k) t r
      ↔ (HasLeap (leaps_at old k) t r ⊎ Leaves s edges t (Atom k r))
  pub listed : AreListed old → AreListed new
  pub labels : (n : ℕ) → Has new.labels.items n
      → Has old.labels.items n ⊎ ((c : ℕ) × (r : ℕ) × Has edges (Elem n c r))

-- at each label, at any label and at each kind just the edges of the states that go by it, and the
-- labels of edges
pub record IsIndex (states : List State) (a : Arcs) : Type 0 where
  pub arcs : (n s c r : ℕ)
      → HasArc (arcs_at a.by_label.items n) s c r ↔ HasEdge states s (Elem n c r)
  pub any : (s c r : ℕ) → HasArc a.any_label.items s c r ↔ HasEdge states s (AnyElem c r)
  pub leaps : (k : AtomKind) (s r : ℕ) → HasLeap (leaps_at a k) s r ↔ HasEdge states s (Atom k r)
  pub listed : AreListed a
  pub labels : (n : ℕ) → Has a.labels.items n
      → (s : ℕ) × (c : ℕ) × (r : ℕ) × HasEdge states s (Elem n c r)

-- the leaps along arcs whose content has the profile p
abbrev pub leaps_along : List Bool → List Arc → List Leap
leaps_along p [] = []
leaps_along p (a ∷ arcs) =
    (if has p a.content then record { sources = a.sources; next = a.next } ∷ [] else [])
    ++ leaps_along p arcs

-- those of an element with the label n
abbrev pub leaps_by : Arcs → ℕ → List Bool → List Leap
leaps_by a n p = leaps_along p (arcs_at a.by_label.items n) ++ leaps_along p a.any_label.items

-- the states that a leap leaves are put into the set where its next state takes what follows
abbrev pub mark_by_leap : List Bool → List Bool → Leap → List Bool
mark_by_leap q marks l = if has q l.next then with_block marks l.sources else marks

-- an edge of one of the leaps leaves the state to one that takes what follows
abbrev pub fires : List Leap → List Bool → ℕ → Bool
fires leaps q s = list_any (λ l. in_block l.sources s && has q l.next) leaps

-- the states below n of which that holds
abbrev pub fired : ℕ → List Leap → List Bool → List Bool
fired n leaps q = told (fires leaps q) n
