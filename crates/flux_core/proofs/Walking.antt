-- The steps that the code of a walk makes.
use Rattle.std.proofs.Common.{◌≡◌, ◌∙◌, ◌<◌, ◌≤◌, ◌++◌, ℕ, List, [], ◌∷◌, Option, Some, None, Result, Ok, Err, IsErrAnd, refl, sym, ap, subst, arith}
use Rattle.std.proofs.lemmas.List.{map-append, reverse-append}
use Rattle.flux_atom.specs.declared.atom.AtomKind.{AtomKind}
use Rattle.flux_schema.specs.Ty.{Ty, empty, seq, alt, star, named, IsWithinLimits}
use Rattle.flux_schema.specs.Definitions.{Definitions, body_of}
use Rattle.flux_types.specs.declared.ty.Ty.{Ty as Tree}
use Rattle.flux_types.specs.declared.ty.Ty.TheVariants.{Empty, Atom, Elem, AnyElem, Seq, Alt, Star, Named}
use Rattle.flux_types.specs.Kept.{AreKept}
use Rattle.flux_types.specs.Read.{ty_of}
use Rattle.flux_types.proofs.Variants.{of_empty, of_atom, of_elem, of_any, of_seq, of_alt, of_star, of_named}
use Rattle.flux_calculus.specs.Typing.{IsAtomic, concluded}
use Rattle.flux_core.specs.declared.walk.Frame.{Frame as Kept}
use Rattle.flux_core.specs.declared.walk.Frame.TheVariants.{SeqFirst, AltFirst, InStar}
use Rattle.flux_core.specs.declared.fault.KindFault.{KindFault}
use Rattle.flux_core.specs.declared.measured.Measured.{Measured}
use Rattle.flux_core.specs.declared.walk.Turn.{Turn}
use Rattle.flux_core.specs.declared.walk.Turn.TheVariants.{At, Over}
use Rattle.flux_core.specs.declared.walk.Up.{Up}
use Rattle.flux_core.specs.declared.walk.Up.TheVariants.{Next, Whole}
use Rattle.flux_core.specs.Faults.{ShowsNothing, IsFault, IsUsable}
use Rattle.flux_core.specs.Walk.{Frame, first_of_seq, second_of_seq, first_of_alt, second_of_alt, inside_star, Position, before, behind, Turns, Concludes, into_seq, into_alt, into_star, to_body, past_empty, to_second, out_of, Walks, goes_on, ComesTo, ReachesTree, AreToBeUsed, GoesDown, GoesUp, IsTurn, frame_of, frames_of}
use Rattle.flux_core.proofs.Replies.{body_usable, fault_carried, large_carried}
use Rattle.flux_core.proofs.WalkLaws.{walks_on}
use Rattle.flux_core.proofs.Work.{type_work, body_less, position_work, turns_fewer, out_fewer, walks_fewer}

pub frames_of-push : (ks : List Kept) (k : Kept) → frames_of (ks ++ k ∷ []) ≡ frame_of k ∷ frames_of ks
frames_of-push ks k = simp (map-append, reverse-append)

pub frames_pushed : (ks ks' : List Kept) (k : Kept) → ks' ≡ ks ++ k ∷ [] → frames_of ks' ≡ frame_of k ∷ frames_of ks
frames_pushed ks ks' k e = ap frames_of e ∙ frames_of-push ks k

-- where a walk goes down: it has come to a type, which can be used, as those that wait can
pub record Downward (defs : Definitions) (p : Position) (fs : List Frame) (t : Ty) : Type 0 where
  pub walk : Walks defs p (before fs t)
  pub usable : IsUsable defs t
  pub waiting : AreToBeUsed defs fs

module _ (defs : Definitions) (p : Position) where
  to_seq : (fs : List Frame) (t u : Ty) → Downward defs p fs (seq t u) → Downward defs p (first_of_seq u ∷ fs) t
  to_seq fs t u d = record {
    walk = goes_on d.walk (into_seq t u);
    usable = record { known = d.usable.known.0; limits = record { nodes = omega (arith, d.usable.limits.nodes); levels = omega (arith, d.usable.limits.levels) } };
    waiting = (record { known = d.usable.known.1; limits = record { nodes = omega (arith, d.usable.limits.nodes); levels = omega (arith, d.usable.limits.levels) } }, d.waiting);
  }

  to_alt : (fs : List Frame) (t u : Ty) → Downward defs p fs (alt t u) → Downward defs p (first_of_alt u ∷ fs) t
  to_alt fs t u d = record {
    walk = goes_on d.walk (into_alt t u);
    usable = record { known = d.usable.known.0; limits = record { nodes = omega (arith, d.usable.limits.nodes); levels = omega (arith, d.usable.limits.levels) } };
    waiting = (record { known = d.usable.known.1; limits = record { nodes = omega (arith, d.usable.limits.nodes); levels = omega (arith, d.usable.limits.levels) } }, d.waiting);
  }

  to_star : (fs : List Frame) (t : Ty) → Downward defs p fs (star t) → Downward defs p (inside_star ∷ fs) t
  to_star fs t d = record {
    walk = goes_on d.walk (into_star t);
    usable = record { known = d.usable.known; limits = record { nodes = omega (arith, d.usable.limits.nodes); levels = omega (arith, d.usable.limits.levels) } };
    waiting = d.waiting;
  }

  abbrev pub DownAt : List Frame → Ty → Type 0
  DownAt fs t = Downward defs p fs t

  moved : (fs fs' : List Frame) (t t' : Ty) → fs' ≡ fs → t' ≡ t → DownAt fs t → DownAt fs' t'
  moved fs fs' t t' e f d =
      let P : List Frame → Type 0 = λ fs. DownAt fs t in
      let Q : Ty → Type 0 = λ t. DownAt fs' t in
      subst Q (sym f) (subst P (sym e) d)

  pub down_seq : (ks ks' : List Kept) (x t u a b : Tree) → x ≡ Seq t u → a ≡ t → b ≡ u → ks' ≡ ks ++ SeqFirst b ∷ [] → DownAt (frames_of ks) (ty_of x) → DownAt (frames_of ks') (ty_of a)
  down_seq ks ks' x t u a b e f g h d =
      moved _ _ _ _ (frames_pushed ks ks' (SeqFirst b) h) refl (to_seq (frames_of ks) (ty_of a) (ty_of b) (moved _ _ _ _ refl (sym (of_seq x t u a b e f g)) d))

  pub down_alt : (ks ks' : List Kept) (x t u a b : Tree) → x ≡ Alt t u → a ≡ t → b ≡ u → ks' ≡ ks ++ AltFirst b ∷ [] → DownAt (frames_of ks) (ty_of x) → DownAt (frames_of ks') (ty_of a)
  down_alt ks ks' x t u a b e f g h d =
      moved _ _ _ _ (frames_pushed ks ks' (AltFirst b) h) refl (to_alt (frames_of ks) (ty_of a) (ty_of b) (moved _ _ _ _ refl (sym (of_alt x t u a b e f g)) d))

  pub down_star : (ks ks' : List Kept) (x t a : Tree) → x ≡ Star t → a ≡ t → ks' ≡ ks ++ InStar ∷ [] → DownAt (frames_of ks) (ty_of x) → DownAt (frames_of ks') (ty_of a)
  down_star ks ks' x t a e f h d =
      moved _ _ _ _ (frames_pushed ks ks' InStar h) refl (to_star (frames_of ks) (ty_of a) (moved _ _ _ _ refl (sym (of_star x t a e f)) d))

  pub down_name : (fs : List Frame) (x a b : Tree) (n : ℕ) → AreKept defs → x ≡ Named n → body_of defs n ≡ Some (ty_of b) → a ≡ b → DownAt fs (ty_of x) → DownAt fs (ty_of a)
  down_name fs x a b n kept e f g d =
      let body : body_of defs n ≡ Some (ty_of a) = f ∙ ap (λ t. Some (ty_of t)) (sym g) in
      let here : DownAt fs (named n) = moved _ _ _ _ refl (sym (of_named x n e)) d in
      record { walk = goes_on here.walk (to_body n body); usable = body_usable defs n (ty_of a) kept body; waiting = d.waiting }

  pub past : (fs : List Frame) (x : Tree) → x ≡ Empty → DownAt fs (ty_of x) → Walks defs p (behind fs empty)
  past fs x e d = let here : DownAt fs empty = moved _ _ _ _ refl (sym (of_empty x e)) d in goes_on here.walk (past_empty fs)

  reached : (fs : List Frame) (t u : Ty) → t ≡ u → IsAtomic t → DownAt fs t → ReachesTree defs p fs u
  reached fs t u e i d =
      let P : Ty → Type 0 = λ w. ReachesTree defs p fs w in
      subst P e (record { atomic = i; usable = d.usable; walk = d.walk })

  pub at_atom : (fs : List Frame) (x : Tree) (k : AtomKind) → x ≡ Atom k → DownAt fs (ty_of x) → ReachesTree defs p fs (ty_of (Atom k))
  at_atom fs x k e d = let P : Ty → Type 0 = λ w. IsAtomic w in reached fs (ty_of x) _ (ap ty_of e) (subst P (sym (of_atom x k e)) tt) d

  pub at_element : (fs : List Frame) (x : Tree) (n : ℕ) (t : Tree) → x ≡ Elem n t → DownAt fs (ty_of x) → ReachesTree defs p fs (ty_of (Elem n t))
  at_element fs x n t e d = let P : Ty → Type 0 = λ w. IsAtomic w in reached fs (ty_of x) _ (ap ty_of e) (subst P (sym (of_elem x n t t e refl)) tt) d

  pub at_any : (fs : List Frame) (x : Tree) (t : Tree) → x ≡ AnyElem t → DownAt fs (ty_of x) → ReachesTree defs p fs (ty_of (AnyElem t))
  at_any fs x t e d = let P : Ty → Type 0 = λ w. IsAtomic w in reached fs (ty_of x) _ (ap ty_of e) (subst P (sym (of_any x t t e refl)) tt) d

-- ---- smaller

module _ (defs : Definitions) where
  less : (t u w : Ty) → w ≡ u → type_work defs t < type_work defs u → type_work defs t < type_work defs w
  less t u w e h = let P : Ty → Type 0 = λ w. type_work defs t < type_work defs w in subst P (sym e) h

  pub seq_less : (x t u a : Tree) → x ≡ Seq t u → a ≡ t → type_work defs (ty_of a) < type_work defs (ty_of x)
  seq_less x t u a e f = less _ _ _ (of_seq x t u a u e f refl) (omega arith)

  pub alt_less : (x t u a : Tree) → x ≡ Alt t u → a ≡ t → type_work defs (ty_of a) < type_work defs (ty_of x)
  alt_less x t u a e f = less _ _ _ (of_alt x t u a u e f refl) (omega arith)

  pub star_less : (x t a : Tree) → x ≡ Star t → a ≡ t → type_work defs (ty_of a) < type_work defs (ty_of x)
  star_less x t a e f = less _ _ _ (of_star x t a e f) (omega arith)

  pub name_less : (x a b : Tree) (n : ℕ) → AreKept defs → x ≡ Named n → body_of defs n ≡ Some (ty_of b) → a ≡ b → type_work defs (ty_of a) < type_work defs (ty_of x)
  name_less x a b n kept e f g = less _ _ _ (of_named x n e) (body_less defs kept n (ty_of a) (f ∙ ap (λ t. Some (ty_of t)) (sym g)))

  -- ---- up

  -- the second part can be used, as those that wait can
  pub second_usable : (fs : List Frame) (f g : Frame) (u t : Ty) → Turns f u g t → AreToBeUsed defs (f ∷ fs) → IsUsable defs t × AreToBeUsed defs (g ∷ fs)
  second_usable fs (first_of_seq v) g u t (is, e) w =
      let P : Ty → Type 0 = λ t. IsUsable defs t in
      let Q : Frame → Type 0 = λ g. AreToBeUsed defs (g ∷ fs) in
      (subst P (sym e) w.0, subst Q (sym is) w.1)
  second_usable fs (second_of_seq s) g u t x w = absurd x
  second_usable fs (first_of_alt v) g u t (is, e) w =
      let P : Ty → Type 0 = λ t. IsUsable defs t in
      let Q : Frame → Type 0 = λ g. AreToBeUsed defs (g ∷ fs) in
      (subst P (sym e) w.0, subst Q (sym is) w.1)
  second_usable fs (second_of_alt s) g u t x w = absurd x
  second_usable fs inside_star g u t x w = absurd x

  waiting_out : (fs : List Frame) (f : Frame) → AreToBeUsed defs (f ∷ fs) → AreToBeUsed defs fs
  waiting_out fs (first_of_seq v) w = w.1
  waiting_out fs (second_of_seq s) w = w
  waiting_out fs (first_of_alt v) w = w.1
  waiting_out fs (second_of_alt s) w = w
  waiting_out fs inside_star w = w

  -- where a walk goes up: it is behind a part, and those that wait can be used
  pub record Upward (p : Position) (fs : List Frame) (u : Ty) : Type 0 where
    pub walk : Walks defs p (behind fs u)
    pub waiting : AreToBeUsed defs fs

  upward_at : (p : Position) (fs fs' : List Frame) (u : Ty) → fs' ≡ fs → Upward p fs u → Upward p fs' u
  upward_at p fs fs' u e h = let P : List Frame → Type 0 = λ fs. Upward p fs u in subst P (sym e) h

  -- out of a frame that is taken from the stack
  pub upward_out : (p : Position) (ks ks' : List Kept) (k : Kept) (u t : Ty) → ks ≡ ks' ++ k ∷ [] → Upward p (frames_of ks) u → Concludes (frame_of k) u t → IsWithinLimits t → Upward p (frames_of ks') t
  upward_out p ks ks' k u t e h is limits =
      let here = upward_at p _ _ u (sym (frames_pushed ks' ks k e)) h in
      record { walk = goes_on here.walk (out_of (frame_of k) is limits); waiting = waiting_out (frames_of ks') (frame_of k) here.waiting }

  -- to the second part
  pub upward_second : (p : Position) (ks ks' : List Kept) (k : Kept) (g : Frame) (u t : Ty) → ks ≡ ks' ++ k ∷ [] → Upward p (frames_of ks) u → Turns (frame_of k) u g t → Downward defs p (g ∷ frames_of ks') t
  upward_second p ks ks' k g u t e h turns =
      let here = upward_at p _ _ u (sym (frames_pushed ks' ks k e)) h in
      let second = second_usable (frames_of ks') (frame_of k) g u t turns here.waiting in
      record { walk = goes_on here.walk (to_second (frame_of k) g turns); usable = second.0; waiting = second.1 }

  pub upward_down : (p : Position) (fs fs' : List Frame) (t u : Ty) → Downward defs p fs t → Walks defs (before fs t) (behind fs' empty) → AreToBeUsed defs fs' → u ≡ empty → Upward p fs' u
  upward_down p fs fs' t u d w waiting e =
      let P : Ty → Type 0 = λ u. Upward p fs' u in
      subst P (sym e) (record { walk = walks_on d.walk w; waiting = waiting })

  pub tree_on : (p : Position) (fs fs' : List Frame) (t a : Ty) → Downward defs p fs t → ReachesTree defs (before fs t) fs' a → ReachesTree defs p fs' a
  tree_on p fs fs' t a d r = record { atomic = r.atomic; usable = r.usable; walk = walks_on d.walk r.walk }

  -- a conclusion that is refused
  pub refused_here : (at : ℕ) (p : Position) (ks ks' : List Kept) (k : Kept) (u : Ty) (e : KindFault) → ks ≡ ks' ++ k ∷ [] → Upward p (frames_of ks) u
      → IsFault ShowsNothing (λ o. (t : Ty) × Concludes (frame_of k) u t × (concluded at t ≡ o)) e → IsFault ShowsNothing (ComesTo defs at p) e
  refused_here at p ks ks' k u e is h f =
      let here = upward_at p _ _ u (sym (frames_pushed ks' ks k is)) h in
      large_carried ShowsNothing (λ o. (t : Ty) × Concludes (frame_of k) u t × (concluded at t ≡ o)) (ComesTo defs at p) e
      (λ f c. record { frame = frame_of k; frames = frames_of ks'; part = u; whole = c.0; walk = here.walk; concludes = c.1; outcome = c.2 }) f

  -- ---- answers

  pub up_next : (at : ℕ) (f : Frame) (u : Ty) (x : Up) (g : Kept) (t : Tree) → x ≡ Next g t → GoesUp at f u (Ok x) → Turns f u (frame_of g) (ty_of t)
  up_next at f u x g t e h = let P : Up → Type 0 = λ x. GoesUp at f u (Ok x) in subst P e h

  pub up_whole : (at : ℕ) (f : Frame) (u : Ty) (x : Up) (m : Measured) → x ≡ Whole m → GoesUp at f u (Ok x) → Concludes f u (ty_of m.ty.value)
  up_whole at f u x m e h = let P : Up → Type 0 = λ x. GoesUp at f u (Ok x) in subst P e h

  pub down_some : (p : Position) (fs : List Frame) (o : Option Tree) (a : Tree) → o ≡ Some a → GoesDown defs p fs o → ReachesTree defs p fs (ty_of a)
  down_some p fs o a e h = let P : Option Tree → Type 0 = λ o. GoesDown defs p fs o in subst P e h

  pub down_none : (p : Position) (fs : List Frame) (o : Option Tree) → o ≡ None → GoesDown defs p fs o → Walks defs p (behind fs empty)
  down_none p fs o e h = let P : Option Tree → Type 0 = λ o. GoesDown defs p fs o in subst P e h

  pub turn_fault : (at at' : ℕ) (p : Position) (fs : List Frame) (e : KindFault) (r : Result Turn KindFault) → at ≡ at' → IsErrAnd r (λ y. y ≡ e) → IsFault ShowsNothing (ComesTo defs at p) e → IsTurn defs at' p fs r
  turn_fault at at' p fs e (Ok x) s i h = absurd i
  turn_fault at at' p fs e (Err y) s i h =
      let P : ℕ → Type 0 = λ n. IsFault ShowsNothing (ComesTo defs n p) e in
      let Q : KindFault → Type 0 = λ y. IsFault ShowsNothing (ComesTo defs at' p) y in
      subst Q (sym i) (subst P s h)

  turn_from : (at : ℕ) (p q : Position) (fs : List Frame) (r : Result Turn KindFault) → Walks defs p q → IsTurn defs at q fs r → IsTurn defs at p fs r
  turn_from at p q fs (Ok (At a)) w h = record { atomic = h.atomic; usable = h.usable; walk = walks_on w h.walk }
  turn_from at p q fs (Ok (Over m)) w h = walks_on w h
  turn_from at p q fs (Err e) w h =
      fault_carried ShowsNothing (ComesTo defs at q) (ComesTo defs at p) e
      (λ f c. record { frame = c.frame; frames = c.frames; part = c.part; whole = c.whole; walk = walks_on w c.walk; concludes = c.concludes; outcome = c.outcome }) h

  -- a turn behind the empty type
  pub turn_past : (at : ℕ) (p : Position) (gs fs : List Frame) (u : Ty) (r : Result Turn KindFault) → Walks defs p (behind gs empty) → u ≡ empty → IsTurn defs at (behind gs u) fs r → IsTurn defs at p fs r
  turn_past at p gs fs u r w e h =
      let P : Ty → Type 0 = λ u. IsTurn defs at (behind gs u) fs r in
      turn_from at p (behind gs empty) fs r w (subst P e h)

  -- ---- fewer steps

  pub fewer_out : (ks ks' : List Kept) (k : Kept) (u t : Ty) → ks ≡ ks' ++ k ∷ [] → Concludes (frame_of k) u t → position_work defs (behind (frames_of ks') empty) < position_work defs (behind (frames_of ks) empty)
  fewer_out ks ks' k u t e is =
      let P : List Frame → Type 0 = λ fs. position_work defs (behind (frames_of ks') empty) < position_work defs (behind fs empty) in
      subst P (sym (frames_pushed ks' ks k e)) (out_fewer defs (frames_of ks') (frame_of k) u t is)

  pub fewer_second : (ks ks' : List Kept) (k : Kept) (g : Frame) (u t : Ty) (fs : List Frame) → AreKept defs → ks ≡ ks' ++ k ∷ [] → Turns (frame_of k) u g t → Walks defs (before (g ∷ frames_of ks') t) (behind fs empty)
      → position_work defs (behind fs empty) < position_work defs (behind (frames_of ks) empty)
  fewer_second ks ks' k g u t fs kept e turns w =
      let P : List Frame → Type 0 = λ hs. position_work defs (behind fs empty) < position_work defs (behind hs empty) in
      let one : position_work defs (before (g ∷ frames_of ks') t) < position_work defs (behind (frame_of k ∷ frames_of ks') empty) = turns_fewer defs (frames_of ks') (frame_of k) g u t turns in
      let rest : position_work defs (behind fs empty) ≤ position_work defs (before (g ∷ frames_of ks') t) = walks_fewer defs kept w in
      subst P (sym (frames_pushed ks' ks k e)) (omega (arith, one, rest))
