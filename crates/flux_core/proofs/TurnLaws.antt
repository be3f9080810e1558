-- What the turns of a walk lead to.
use Rattle.std.proofs.Common.{◌≡◌, ◌<◌, ◌+◌, ℕ, List, [], Result, Ok, Err, IsErrAnd, sym, subst, arith}
use Rattle.flux_trees.specs.Draft.{Draft}
use Rattle.flux_schema.specs.Ty.{Ty, empty, atom, element, any_element, seq, alt, star, named, IsWithinLimits}
use Rattle.flux_schema.specs.Definitions.{Definitions}
use Rattle.flux_types.specs.declared.ty.Ty.{Ty as Tree}
use Rattle.flux_types.specs.Kept.{AreKept}
use Rattle.flux_types.specs.Read.{ty_of}
use Rattle.flux_calculus.specs.Typing.{Outcome, typed, IsAtomic}
use Rattle.flux_core.specs.declared.fault.KindFault.{KindFault}
use Rattle.flux_core.specs.declared.measured.Measured.{Measured}
use Rattle.flux_core.specs.declared.walk.Turn.{Turn}
use Rattle.flux_core.specs.declared.walk.Turn.TheVariants.{At, Over}
use Rattle.flux_core.specs.Faults.{ShowsNothing, IsFault, IsUsable}
use Rattle.flux_core.specs.Answers.{IsAnswer}
use Rattle.flux_core.specs.Map.{Mapped}
use Rattle.flux_core.specs.Walk.{Frame, Position, before, behind, IsTurn}
use Rattle.flux_core.proofs.Replies.{passed_on, large_carried}
use Rattle.flux_core.proofs.WalkLaws.{Leads, leads_first, leads_on, leads_behind, leads_end, leads_fault, walk_fault}
use Rattle.flux_core.proofs.Work.{position_work, walks_fewer}

module _ (defs : Definitions) (R : Ty → Outcome → Type 0) (at : ℕ) (whole : Ty) where
  -- what comes of the whole from a tree, which can be used, or from the end, comes of the type
  abbrev pub TurnLeads : List Frame → Turn → Type 0
  TurnLeads fs (At a) = IsAtomic (ty_of a) × IsUsable defs (ty_of a) × Leads defs R at whole (before fs (ty_of a))
  TurnLeads fs (Over m) = Leads defs R at whole (behind [] (ty_of m.ty.value))

  turn_leads : (p : Position) (fs : List Frame) (turn : Turn) → Leads defs R at whole p → IsTurn defs at p fs (Ok turn) → TurnLeads fs turn
  turn_leads p fs (At a) l h = (h.atomic, h.usable, leads_on defs R at whole p (before fs (ty_of a)) l h.walk)
  turn_leads p fs (Over m) l h = leads_on defs R at whole p (behind [] (ty_of m.ty.value)) l h

  turn_as : (defs' : Definitions) (at' : ℕ) (p : Position) (fs : List Frame) (r : Result Turn KindFault) → defs' ≡ defs → at' ≡ at → IsTurn defs' at' p fs r → IsTurn defs at p fs r
  turn_as defs' at' p fs r e f h =
      let P : Definitions → Type 0 = λ d. IsTurn d at' p fs r in
      let Q : ℕ → Type 0 = λ n. IsTurn defs n p fs r in
      subst Q f (subst P e h)

  -- the first turn
  pub first_leads : (defs' : Definitions) (at' : ℕ) (gs fs : List Frame) (turn : Turn) → defs' ≡ defs → at' ≡ at → gs ≡ [] → IsTurn defs' at' (before gs whole) fs (Ok turn) → TurnLeads fs turn
  first_leads defs' at' gs fs turn e f g h =
      let P : List Frame → Type 0 = λ gs. IsTurn defs at (before gs whole) fs (Ok turn) in
      turn_leads (before [] whole) fs turn (leads_first defs R at whole) (subst P g (turn_as defs' at' (before gs whole) fs (Ok turn) e f h))

  -- the turn behind a tree that became a type
  pub next_leads : (defs' : Definitions) (at' : ℕ) (gs fs : List Frame) (a u : Ty) (turn : Turn) → defs' ≡ defs → at' ≡ at → IsAtomic a → Leads defs R at whole (before gs a) → R a (typed u) → IsWithinLimits u → IsTurn defs' at' (behind gs u) fs (Ok turn) → TurnLeads fs turn
  next_leads defs' at' gs fs a u turn e f i l r limits h =
      turn_leads (behind gs u) fs turn (leads_behind defs R at whole gs a u l i r limits) (turn_as defs' at' (behind gs u) fs (Ok turn) e f h)

  pub turn_at : (fs : List Frame) (turn : Turn) (a : Tree) → turn ≡ At a → TurnLeads fs turn → TurnLeads fs (At a)
  turn_at fs turn a e h = let P : Turn → Type 0 = λ t. TurnLeads fs t in subst P e h

  pub turn_over : (fs : List Frame) (turn : Turn) (m : Measured) → turn ≡ Over m → TurnLeads fs turn → Mapped defs R at whole (typed (ty_of m.ty.value))
  turn_over fs turn m e h = let P : Turn → Type 0 = λ t. TurnLeads fs t in leads_end defs R at whole (ty_of m.ty.value) (subst P e h)

-- ---- faults, where S says which forests show one

module _ (S : Ty → Ty → Draft (Unit {0}) → Type 0) (defs : Definitions) (R : Ty → Outcome → Type 0) (at : ℕ) (whole : Ty) where
  -- a fault of the walk is one of the map
  from_walk : (e : KindFault) (r : Result Measured KindFault) → IsFault ShowsNothing (λ o. Mapped defs R at whole o) e → IsErrAnd r (λ y. y ≡ e) → IsAnswer S (Mapped defs R at whole) r
  from_walk e r h i =
      let Q : Outcome → Type 0 = λ o. Mapped defs R at whole o in
      passed_on S Q Q e r (λ f m. m) (large_carried S Q Q e (λ f m. m) h) i

  pub first_fault : (defs' : Definitions) (at' : ℕ) (gs fs : List Frame) (e : KindFault) (r : Result Measured KindFault) → defs' ≡ defs → at' ≡ at → gs ≡ [] → IsTurn defs' at' (before gs whole) fs (Err e) → IsErrAnd r (λ y. y ≡ e) → IsAnswer S (Mapped defs R at whole) r
  first_fault defs' at' gs fs e r i f g h j =
      let P : List Frame → Type 0 = λ gs. IsTurn defs at (before gs whole) fs (Err e) in
      from_walk e r (walk_fault defs R at whole (before [] whole) e (leads_first defs R at whole) (subst P g (turn_as defs R at whole defs' at' (before gs whole) fs (Err e) i f h))) j

  pub next_fault : (defs' : Definitions) (at' : ℕ) (gs fs : List Frame) (a u : Ty) (e : KindFault) (r : Result Measured KindFault) → defs' ≡ defs → at' ≡ at → IsAtomic a → Leads defs R at whole (before gs a) → R a (typed u) → IsWithinLimits u → IsTurn defs' at' (behind gs u) fs (Err e) → IsErrAnd r (λ y. y ≡ e)
      → IsAnswer S (Mapped defs R at whole) r
  next_fault defs' at' gs fs a u e r i f t l s limits h j =
      from_walk e r (walk_fault defs R at whole (behind gs u) e (leads_behind defs R at whole gs a u l t s limits) (turn_as defs R at whole defs' at' (behind gs u) fs (Err e) i f h)) j

  -- a fault at a tree
  pub tree_fault : (gs : List Frame) (a : Ty) (e : KindFault) (r : Result Measured KindFault) → IsAtomic a → Leads defs R at whole (before gs a) → IsFault S (R a) e → IsErrAnd r (λ y. y ≡ e) → IsAnswer S (Mapped defs R at whole) r
  tree_fault gs a e r i l h j =
      let P : Outcome → Type 0 = λ o. R a o in
      let Q : Outcome → Type 0 = λ o. Mapped defs R at whole o in
      passed_on S P Q e r (λ f d. leads_fault defs R at whole gs a f l i d) h j

-- ---- fewer steps

-- the steps from a turn
abbrev pub turn_work : Definitions → List Frame → Turn → ℕ
turn_work defs fs (At a) = position_work defs (before fs (ty_of a)) + 1
turn_work defs fs (Over m) = 0

tree_work : (defs : Definitions) (fs : List Frame) (a u : Ty) → IsAtomic a → position_work defs (before fs a) ≡ position_work defs (behind fs u) + 1
tree_work defs fs empty u i = absurd i
tree_work defs fs (atom k) u i = omega arith
tree_work defs fs (element n t) u i = omega arith
tree_work defs fs (any_element t) u i = omega arith
tree_work defs fs (seq t w) u i = absurd i
tree_work defs fs (alt t w) u i = absurd i
tree_work defs fs (star t) u i = absurd i
tree_work defs fs (named x) u i = absurd i

turned_less : (defs : Definitions) (at : ℕ) (gs fs : List Frame) (a u : Ty) (turn : Turn) → AreKept defs → IsAtomic a → IsTurn defs at (behind gs u) fs (Ok turn) → turn_work defs fs turn < position_work defs (before gs a) + 1
turned_less defs at gs fs a u (At b) kept i h = omega (arith, tree_work defs gs a u i, walks_fewer defs kept h.walk)
turned_less defs at gs fs a u (Over m) kept i h = omega arith

pub turn_less : (defs defs' : Definitions) (at : ℕ) (gs fs : List Frame) (a : Tree) (u : Ty) (was turn : Turn) → defs' ≡ defs → AreKept defs → was ≡ At a → IsAtomic (ty_of a) → IsTurn defs' at (behind gs u) fs (Ok turn) → turn_work defs fs turn < turn_work defs gs was
turn_less defs defs' at gs fs a u was turn e kept is i h =
    let P : Definitions → Type 0 = λ d. IsTurn d at (behind gs u) fs (Ok turn) in
    let Q : Turn → Type 0 = λ t. turn_work defs fs turn < turn_work defs gs t in
    subst Q (sym is) (turned_less defs at gs fs (ty_of a) u turn kept i (subst P e h))
