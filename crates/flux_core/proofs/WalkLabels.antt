-- What holds of each label of a type holds of those of the trees that a walk over it comes to.
use Rattle.std.proofs.Common.{◌≡◌, ℕ, List, [], ◌∷◌, Ok, sym, subst}
use Rattle.flux_schema.specs.Ty.{Ty}
use Rattle.flux_schema.specs.Definitions.{Definitions}
use Rattle.flux_schema.specs.Labels.{EachLabelOf, EachLabelOfBodies}
use Rattle.flux_types.specs.declared.ty.Ty.{Ty as Tree}
use Rattle.flux_types.specs.Read.{ty_of}
use Rattle.flux_core.specs.declared.walk.Turn.{Turn}
use Rattle.flux_core.specs.declared.walk.Turn.TheVariants.{At, Over}
use Rattle.flux_core.specs.Walk.{Frame, first_of_seq, second_of_seq, first_of_alt, second_of_alt, inside_star, Position, before, behind, Turns, Goes, into_seq, into_alt, into_star, to_body, past_empty, to_second, out_of, Walks, stays, goes_on, IsTurn}

module _ (P : ℕ → Type 0) where
  -- it holds of those of the parts that are still to come
  abbrev pub EachLabelIn : List Frame → Type 0
  EachLabelIn [] = Unit {0}
  EachLabelIn (first_of_seq v ∷ fs) = EachLabelOf P v × EachLabelIn fs
  EachLabelIn (second_of_seq s ∷ fs) = EachLabelIn fs
  EachLabelIn (first_of_alt v ∷ fs) = EachLabelOf P v × EachLabelIn fs
  EachLabelIn (second_of_alt s ∷ fs) = EachLabelIn fs
  EachLabelIn (inside_star ∷ fs) = EachLabelIn fs

  -- and of those of the type that a walk stands before
  abbrev pub EachLabelFrom : Position → Type 0
  EachLabelFrom (before fs t) = EachLabelOf P t × EachLabelIn fs
  EachLabelFrom (behind fs u) = EachLabelIn fs

  to_second_part : (fs : List Frame) (f g : Frame) (u t : Ty) → Turns f u g t → EachLabelIn (f ∷ fs) → EachLabelFrom (before (g ∷ fs) t)
  to_second_part fs (first_of_seq v) g u t (is, e) h =
      let Q : Frame → Type 0 = λ g. EachLabelIn (g ∷ fs) in
      (subst (EachLabelOf P) (sym e) h.0, subst Q (sym is) h.1)
  to_second_part fs (second_of_seq s) g u t x h = absurd x
  to_second_part fs (first_of_alt v) g u t (is, e) h =
      let Q : Frame → Type 0 = λ g. EachLabelIn (g ∷ fs) in
      (subst (EachLabelOf P) (sym e) h.0, subst Q (sym is) h.1)
  to_second_part fs (second_of_alt s) g u t x h = absurd x
  to_second_part fs inside_star g u t x h = absurd x

  out_of_frame : (fs : List Frame) (f : Frame) → EachLabelIn (f ∷ fs) → EachLabelIn fs
  out_of_frame fs (first_of_seq v) h = h.1
  out_of_frame fs (second_of_seq s) h = h
  out_of_frame fs (first_of_alt v) h = h.1
  out_of_frame fs (second_of_alt s) h = h
  out_of_frame fs inside_star h = h

  goes_labels : {defs : Definitions} {p q : Position} → EachLabelOfBodies P defs → Goes defs p q → EachLabelFrom p → EachLabelFrom q
  goes_labels bodies (into_seq t u) h = (h.0.0, (h.0.1, h.1))
  goes_labels bodies (into_alt t u) h = (h.0.0, (h.0.1, h.1))
  goes_labels bodies (into_star t) h = (h.0, h.1)
  goes_labels bodies (to_body x {t} e) h = (bodies x t e, h.1)
  goes_labels bodies (past_empty fs) h = h.1
  goes_labels bodies (to_second {fs} f g {t} {u} turns) h = to_second_part fs f g u t turns h
  goes_labels bodies (out_of {fs} f is limits) h = out_of_frame fs f h

  pub walks_labels : {defs : Definitions} {p q : Position} → EachLabelOfBodies P defs → Walks defs p q → EachLabelFrom p → EachLabelFrom q
  walks_labels bodies stays h = h
  walks_labels bodies (goes_on w g) h = goes_labels bodies g (walks_labels bodies w h)

  -- of those of the tree that a turn is at, and of the parts still to come
  abbrev pub TurnLabels : List Frame → Turn → Type 0
  TurnLabels fs (At a) = EachLabelFrom (before fs (ty_of a))
  TurnLabels fs (Over m) = Unit {0}

  turned_labels : (defs : Definitions) (at : ℕ) (p : Position) (fs : List Frame) (turn : Turn) → EachLabelOfBodies P defs → EachLabelFrom p → IsTurn defs at p fs (Ok turn) → TurnLabels fs turn
  turned_labels defs at p fs (At a) bodies h t = walks_labels bodies t.walk h
  turned_labels defs at p fs (Over m) bodies h t = tt

  pub turn_labels : (defs defs' : Definitions) (at : ℕ) (p : Position) (fs : List Frame) (turn : Turn) → defs' ≡ defs → EachLabelOfBodies P defs → EachLabelFrom p → IsTurn defs' at p fs (Ok turn) → TurnLabels fs turn
  turn_labels defs defs' at p fs turn e bodies h t =
      let Q : Definitions → Type 0 = λ d. IsTurn d at p fs (Ok turn) in
      turned_labels defs at p fs turn bodies h (subst Q e t)

  pub labels_at : (fs : List Frame) (turn : Turn) (a : Tree) → turn ≡ At a → TurnLabels fs turn → EachLabelFrom (before fs (ty_of a))
  labels_at fs turn a e h = let Q : Turn → Type 0 = λ t. TurnLabels fs t in subst Q e h

  -- before a type in no frame
  pub labels_before : (fs : List Frame) (t : Ty) → fs ≡ [] → EachLabelOf P t → EachLabelFrom (before fs t)
  labels_before fs t e h = let Q : List Frame → Type 0 = λ fs. EachLabelIn fs in (h, subst Q (sym e) tt)
