-- What a walk comes to is what the map gives.
use Rattle.std.proofs.Common.{◌≡◌, ℕ, List, [], ◌∷◌, refl, sym, subst}
use Rattle.flux_schema.specs.Ty.{Ty, empty, seq, alt, star, IsWithinLimits}
use Rattle.flux_schema.specs.Definitions.{Definitions}
use Rattle.flux_calculus.specs.Fault.{Fault}
use Rattle.flux_calculus.specs.Typing.{Outcome, typed, faulty, concluded, IsAtomic}
use Rattle.flux_core.specs.declared.fault.KindFault.{KindFault}
use Rattle.flux_core.specs.Faults.{ShowsNothing, IsFault}
use Rattle.flux_core.specs.Map.{Mapped, of_tree, fault_of_tree, of_empty, of_seq, left_of_seq, right_of_seq, of_alt, left_of_alt, right_of_alt, of_star, inside_of_star, of_name}
use Rattle.flux_core.specs.Walk.{Frame, first_of_seq, second_of_seq, first_of_alt, second_of_alt, inside_star, Position, before, behind, Turns, Concludes, Goes, into_seq, into_alt, into_star, to_body, past_empty, to_second, out_of, Walks, stays, goes_on, ComesTo}
use Rattle.flux_core.proofs.Replies.{concluded_within, fault_carried}

-- ---- steps

pub walks_on : {defs : Definitions} {p q r : Position} → Walks defs p q → Walks defs q r → Walks defs p r
walks_on w stays = w
walks_on w (goes_on v g) = goes_on (walks_on w v) g

module _ (defs : Definitions) (R : Ty → Outcome → Type 0) (at : ℕ) where
  abbrev Map : Ty → Outcome → Type 0
  Map t o = Mapped defs R at t o

  -- ---- what comes of the whole, where something comes of a part

  abbrev second : (Ty → Ty → Ty) → Ty → Outcome → Outcome
  second form t (typed u) = concluded at (form t u)
  second form t (faulty e) = faulty e

  abbrev starred : Outcome → Outcome
  starred (typed u) = concluded at (star u)
  starred (faulty e) = faulty e

  abbrev First : (Ty → Ty → Ty) → Ty → Outcome → (Outcome → Type 0) → Type 0
  First form u (typed t) K = (q : Outcome) × Map u q × K (second form t q)
  First form u (faulty e) K = K (faulty e)

  abbrev Through : List Frame → Outcome → Outcome → Type 0
  Through [] q o = q ≡ o
  Through (first_of_seq u ∷ fs) q o = First seq u q (λ p. Through fs p o)
  Through (second_of_seq t ∷ fs) q o = Through fs (second seq t q) o
  Through (first_of_alt u ∷ fs) q o = First alt u q (λ p. Through fs p o)
  Through (second_of_alt t ∷ fs) q o = Through fs (second alt t q) o
  Through (inside_star ∷ fs) q o = Through fs (starred q) o

  through_fault : (fs : List Frame) (e : Fault) → Through fs (faulty e) (faulty e)
  through_fault [] e = refl
  through_fault (first_of_seq u ∷ fs) e = through_fault fs e
  through_fault (second_of_seq t ∷ fs) e = through_fault fs e
  through_fault (first_of_alt u ∷ fs) e = through_fault fs e
  through_fault (second_of_alt t ∷ fs) e = through_fault fs e
  through_fault (inside_star ∷ fs) e = through_fault fs e

  -- what comes of the whole from a position
  abbrev Ends : Position → Outcome → Type 0
  Ends (before fs t) o = (q : Outcome) × Map t q × Through fs q o
  Ends (behind fs u) o = Through fs (typed u) o

  seq_back : (fs : List Frame) (t u : Ty) (o q : Outcome) → Map t q → First seq u q (λ p. Through fs p o) → Ends (before fs (seq t u)) o
  seq_back fs t u o (typed t') m (typed u', k, h) = (concluded at (seq t' u'), of_seq m k refl, h)
  seq_back fs t u o (typed t') m (faulty e, k, h) = (faulty e, right_of_seq m k, h)
  seq_back fs t u o (faulty e) m h = (faulty e, left_of_seq m, h)

  alt_back : (fs : List Frame) (t u : Ty) (o q : Outcome) → Map t q → First alt u q (λ p. Through fs p o) → Ends (before fs (alt t u)) o
  alt_back fs t u o (typed t') m (typed u', k, h) = (concluded at (alt t' u'), of_alt m k refl, h)
  alt_back fs t u o (typed t') m (faulty e, k, h) = (faulty e, right_of_alt m k, h)
  alt_back fs t u o (faulty e) m h = (faulty e, left_of_alt m, h)

  star_back : (fs : List Frame) (t : Ty) (o q : Outcome) → Map t q → Through fs (starred q) o → Ends (before fs (star t)) o
  star_back fs t o (typed t') m h = (concluded at (star t'), of_star m refl, h)
  star_back fs t o (faulty e) m h = (faulty e, inside_of_star m, h)

  second_back : (fs : List Frame) (f g : Frame) (u t : Ty) (o : Outcome) → Turns f u g t → Ends (before (g ∷ fs) t) o → Ends (behind (f ∷ fs) u) o
  second_back fs (first_of_seq v) g u t o (is, e) h =
      let P : Frame → Type 0 = λ f. Ends (before (f ∷ fs) t) o in
      let Q : Ty → Type 0 = λ t. Ends (before (second_of_seq u ∷ fs) t) o in
      subst Q e (subst P is h)
  second_back fs (second_of_seq s) g u t o x h = absurd x
  second_back fs (first_of_alt v) g u t o (is, e) h =
      let P : Frame → Type 0 = λ f. Ends (before (f ∷ fs) t) o in
      let Q : Ty → Type 0 = λ t. Ends (before (second_of_alt u ∷ fs) t) o in
      subst Q e (subst P is h)
  second_back fs (second_of_alt s) g u t o x h = absurd x
  second_back fs inside_star g u t o x h = absurd x

  -- behind a part whose type is concluded with an outcome
  out_back : (fs : List Frame) (f : Frame) (u t : Ty) (o q : Outcome) → Concludes f u t → concluded at t ≡ q → Through fs q o → Ends (behind (f ∷ fs) u) o
  out_back fs (first_of_seq v) u t o q x e h = absurd x
  out_back fs (second_of_seq s) u t o q is e h =
      let P : Outcome → Type 0 = λ p. Through fs p o in
      let Q : Ty → Type 0 = λ t. Through fs (concluded at t) o in
      subst Q is (subst P (sym e) h)
  out_back fs (first_of_alt v) u t o q x e h = absurd x
  out_back fs (second_of_alt s) u t o q is e h =
      let P : Outcome → Type 0 = λ p. Through fs p o in
      let Q : Ty → Type 0 = λ t. Through fs (concluded at t) o in
      subst Q is (subst P (sym e) h)
  out_back fs inside_star u t o q is e h =
      let P : Outcome → Type 0 = λ p. Through fs p o in
      let Q : Ty → Type 0 = λ t. Through fs (concluded at t) o in
      subst Q is (subst P (sym e) h)

  goes_back : {p p' : Position} → Goes defs p p' → (o : Outcome) → Ends p' o → Ends p o
  goes_back (into_seq {fs} t u) o (q, m, h) = seq_back fs t u o q m h
  goes_back (into_alt {fs} t u) o (q, m, h) = alt_back fs t u o q m h
  goes_back (into_star {fs} t) o (q, m, h) = star_back fs t o q m h
  goes_back (to_body x e) o (q, m, h) = (q, of_name e m, h)
  goes_back (past_empty fs) o h = (typed empty, of_empty, h)
  goes_back (to_second {fs} f g {t} {u} turns) o h = second_back fs f g u t o turns h
  goes_back (out_of {fs} f {t} {u} is limits) o h = out_back fs f u t o (typed t) is (concluded_within at t limits) h

  walks_back : {p p' : Position} → Walks defs p p' → (o : Outcome) → Ends p' o → Ends p o
  walks_back stays o h = h
  walks_back (goes_on w g) o h = walks_back w o (goes_back g o h)

  -- what comes of the whole from the position comes of the type
  abbrev pub Leads : Ty → Position → Type 0
  Leads whole p = (o : Outcome) → Ends p o → Map whole o

  pub leads_first : (whole : Ty) → Leads whole (before [] whole)
  leads_first whole o (q, m, e) = let P : Outcome → Type 0 = λ p. Map whole p in subst P e m

  pub leads_on : (whole : Ty) (p q : Position) → Leads whole p → Walks defs p q → Leads whole q
  leads_on whole p q l w = λ o h. l o (walks_back w o h)

  -- a tree becomes a type
  pub leads_behind : (whole : Ty) (fs : List Frame) (a t : Ty) → Leads whole (before fs a) → IsAtomic a → R a (typed t) → IsWithinLimits t → Leads whole (behind fs t)
  leads_behind whole fs a t l i r limits = λ o h. l o (typed t, of_tree i r (concluded_within at t limits), h)

  -- at the end
  pub leads_end : (whole u : Ty) → Leads whole (behind [] u) → Map whole (typed u)
  leads_end whole u l = l (typed u) refl

  -- a fault at a tree
  pub leads_fault : (whole : Ty) (fs : List Frame) (a : Ty) (f : Fault) → Leads whole (before fs a) → IsAtomic a → R a (faulty f) → Map whole (faulty f)
  leads_fault whole fs a f l i r = l (faulty f) (faulty f, fault_of_tree i r, through_fault fs f)

  -- a conclusion that is refused
  pub leads_refused : (whole : Ty) (p : Position) (f : Fault) → Leads whole p → ComesTo defs at p (faulty f) → Map whole (faulty f)
  leads_refused whole p f l c =
      l (faulty f) (walks_back c.walk (faulty f) (out_back c.frames c.frame c.part c.whole (faulty f) (faulty f) c.concludes c.outcome (through_fault c.frames f)))

  -- a fault of the walk is one of the map
  pub walk_fault : (whole : Ty) (p : Position) (e : KindFault) → Leads whole p → IsFault ShowsNothing (ComesTo defs at p) e → IsFault ShowsNothing (Map whole) e
  walk_fault whole p e l h = fault_carried ShowsNothing (ComesTo defs at p) (Map whole) e (λ f c. leads_refused whole p f l c) h
