-- A walk over a type, from tree to tree: where it is, and how it goes on.
use Rattle.std.specs.Prelude.{◌≡◌, ℕ, List, [], ◌∷◌, Option, Some, None, Result, Ok, Err, map, reverse}
use Rattle.flux_schema.specs.Ty.{Ty, empty, seq, alt, star, named, IsWithinLimits}
use Rattle.flux_schema.specs.Definitions.{Definitions, body_of}
use Rattle.flux_types.specs.Read.{ty_of}
use Rattle.flux_types.specs.declared.ty.Ty.{Ty as Tree}
use Rattle.flux_calculus.specs.Typing.{Outcome, concluded, IsAtomic}
use Rattle.flux_core.specs.declared.fault.KindFault.{KindFault}
use Rattle.flux_core.specs.declared.walk.Frame.{Frame as Kept}
use Rattle.flux_core.specs.declared.walk.Frame.TheVariants.{SeqFirst, SeqSecond, AltFirst, AltSecond, InStar}
use Rattle.flux_core.specs.declared.walk.Turn.{Turn}
use Rattle.flux_core.specs.declared.walk.Turn.TheVariants.{At, Over}
use Rattle.flux_core.specs.declared.walk.Walk.{Walk}
use Rattle.flux_core.specs.declared.walk.Up.{Up}
use Rattle.flux_core.specs.declared.walk.Up.TheVariants.{Next, Whole}
use Rattle.flux_core.specs.Faults.{ShowsNothing, IsFault, IsUsable}

-- what stands round a part of a type: it is the first of a sequence or of a choice, whose second
-- part is still to come; it is the second, and the first became a type; it is the part of a star
pub data Frame : Type 0 where
  first_of_seq : (second : Ty) → Frame
  second_of_seq : (first : Ty) → Frame
  first_of_alt : (second : Ty) → Frame
  second_of_alt : (first : Ty) → Frame
  inside_star : Frame

-- where a walk is, in what stands round it, the innermost first: before a type, or behind a part
-- that became a type
pub data Position : Type 0 where
  before : (frames : List Frame) (t : Ty) → Position
  behind : (frames : List Frame) (t : Ty) → Position

-- behind a first part that became u, the second part is t
abbrev pub Turns : Frame → Ty → Frame → Ty → Type 0
Turns (first_of_seq v) u g t = (g ≡ second_of_seq u) × (t ≡ v)
Turns (second_of_seq s) u g t = ⊥
Turns (first_of_alt v) u g t = (g ≡ second_of_alt u) × (t ≡ v)
Turns (second_of_alt s) u g t = ⊥
Turns inside_star u g t = ⊥

-- behind a last part that became u, the type t is concluded
abbrev pub Concludes : Frame → Ty → Ty → Type 0
Concludes (first_of_seq v) u t = ⊥
Concludes (second_of_seq s) u t = t ≡ seq s u
Concludes (first_of_alt v) u t = ⊥
Concludes (second_of_alt s) u t = t ≡ alt s u
Concludes inside_star u t = t ≡ star u

-- one step of a walk: into the first part of a type, to the body of a name, past the empty type,
-- to a second part, or out of a type that is concluded and within the limits
pub data Goes (defs : Definitions) : Position → Position → Type 0 where
  into_seq : {fs : List Frame} (t u : Ty) →
      Goes defs (before fs (seq t u)) (before (first_of_seq u ∷ fs) t)
  into_alt : {fs : List Frame} (t u : Ty) →
      Goes defs (before fs (alt t u)) (before (first_of_alt u ∷ fs) t)
  into_star : {fs : List Frame} (t : Ty) →
      Goes defs (before fs (star t)) (before (inside_star ∷ fs) t)
  to_body : {fs : List Frame} (x : ℕ) {t : Ty} → body_of defs x ≡ Some t →
      Goes defs (before fs (named x)) (before fs t)
  past_empty : (fs : List Frame) → Goes defs (before fs empty) (behind fs empty)
  to_second : {fs : List Frame} (f g : Frame) {t u : Ty} → Turns f u g t →
      Goes defs (behind (f ∷ fs) u) (before (g ∷ fs) t)
  out_of : {fs : List Frame} (f : Frame) {t u : Ty} → Concludes f u t → IsWithinLimits t →
      Goes defs (behind (f ∷ fs) u) (behind fs t)

-- steps of a walk: none, or some and one more
pub data Walks (defs : Definitions) (p : Position) : Position → Type 0 where
  stays : Walks defs p p
  goes_on : {q r : Position} → Walks defs p q → Goes defs q r → Walks defs p r

-- a walk comes to a conclusion with this outcome
pub record ComesTo (defs : Definitions) (at : ℕ) (p : Position) (o : Outcome) : Type 0 where
  pub frame : Frame
  pub frames : List Frame
  pub part : Ty
  pub whole : Ty
  pub walk : Walks defs p (behind (frame ∷ frames) part)
  pub concludes : Concludes frame part whole
  pub outcome : concluded at whole ≡ o

-- a walk comes to an atom type or an element type, which can be used
pub record ReachesTree (defs : Definitions) (p : Position) (frames : List Frame) (a : Ty) :
    Type 0 where
  pub atomic : IsAtomic a
  pub usable : IsUsable defs a
  pub walk : Walks defs p (before frames a)

-- each part that is still to come can be used
abbrev pub AreToBeUsed : Definitions → List Frame → Type 0
AreToBeUsed defs [] = Unit {0}
AreToBeUsed defs (first_of_seq v ∷ fs) = IsUsable defs v × AreToBeUsed defs fs
AreToBeUsed defs (second_of_seq s ∷ fs) = AreToBeUsed defs fs
AreToBeUsed defs (first_of_alt v ∷ fs) = IsUsable defs v × AreToBeUsed defs fs
AreToBeUsed defs (second_of_alt s ∷ fs) = AreToBeUsed defs fs
AreToBeUsed defs (inside_star ∷ fs) = AreToBeUsed defs fs

-- the frame that a Rust value spells
abbrev pub frame_of : Kept → Frame
frame_of (SeqFirst second) = first_of_seq (ty_of second)
frame_of (SeqSecond first) = second_of_seq (ty_of first.ty.value)
frame_of (AltFirst second) = first_of_alt (ty_of second)
frame_of (AltSecond first) = second_of_alt (ty_of first.ty.value)
frame_of InStar = inside_star

-- the last comes first
abbrev pub frames_of : List Kept → List Frame
frames_of kept = reverse (map frame_of kept)

-- what stands round the place where a walk is
abbrev pub frames_in : Walk → List Frame
frames_in walk = frames_of walk.frames.items

-- down from a position: to a tree, or past the empty type
abbrev pub GoesDown : Definitions → Position → List Frame → Option Tree → Type 0
GoesDown defs p fs (Some a) = ReachesTree defs p fs (ty_of a)
GoesDown defs p fs None = Walks defs p (behind fs empty)

-- up from a part in a frame: to the second part, or out of the type
abbrev pub GoesUp : ℕ → Frame → Ty → Result Up KindFault → Type 0
GoesUp at f u (Ok (Next frame t)) = Turns f u (frame_of frame) (ty_of t)
GoesUp at f u (Ok (Whole made)) = Concludes f u (ty_of made.ty.value)
GoesUp at f u (Err fault) =
    IsFault ShowsNothing (λ o. (t : Ty) × Concludes f u t × (concluded at t ≡ o)) fault

-- a turn of a walk from a position: at a tree, at the end, or at a type that is too large
abbrev pub IsTurn : Definitions → ℕ → Position → List Frame → Result Turn KindFault → Type 0
IsTurn defs at p fs (Ok (At a)) = ReachesTree defs p fs (ty_of a)
IsTurn defs at p fs (Ok (Over made)) = Walks defs p (behind [] (ty_of made.ty.value))
IsTurn defs at p fs (Err fault) = IsFault ShowsNothing (ComesTo defs at p) fault
