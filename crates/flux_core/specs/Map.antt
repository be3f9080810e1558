-- The map over a type: what the type becomes where each of its trees becomes something.
use Rattle.std.specs.Prelude.{◌≡◌, ℕ, Some}
use Rattle.flux_schema.specs.Ty.{Ty, empty, seq, alt, star, named}
use Rattle.flux_schema.specs.Definitions.{Definitions, body_of}
use Rattle.flux_calculus.specs.Fault.{Fault}
use Rattle.flux_calculus.specs.Typing.{Outcome, typed, faulty, concluded, IsAtomic}

-- R says what comes of an atom type or an element type. The other types keep their form round what
-- their parts become, the left part first; a name gives what its body gives. Each type that is
-- concluded is tested, and the first fault is that of the whole
pub data Mapped (defs : Definitions) (R : Ty → Outcome → Type 0) (at : ℕ) :
    Ty → Outcome → Type 0 where
  of_tree : {a t : Ty} {o : Outcome} →
      IsAtomic a → R a (typed t) → concluded at t ≡ o → Mapped defs R at a o
  fault_of_tree : {a : Ty} {f : Fault} →
      IsAtomic a → R a (faulty f) → Mapped defs R at a (faulty f)
  of_empty : Mapped defs R at empty (typed empty)
  of_seq : {t u t' u' : Ty} {o : Outcome} →
      Mapped defs R at t (typed t') → Mapped defs R at u (typed u') →
      concluded at (seq t' u') ≡ o → Mapped defs R at (seq t u) o
  left_of_seq : {t u : Ty} {f : Fault} →
      Mapped defs R at t (faulty f) → Mapped defs R at (seq t u) (faulty f)
  right_of_seq : {t u t' : Ty} {f : Fault} →
      Mapped defs R at t (typed t') → Mapped defs R at u (faulty f) →
      Mapped defs R at (seq t u) (faulty f)
  of_alt : {t u t' u' : Ty} {o : Outcome} →
      Mapped defs R at t (typed t') → Mapped defs R at u (typed u') →
      concluded at (alt t' u') ≡ o → Mapped defs R at (alt t u) o
  left_of_alt : {t u : Ty} {f : Fault} →
      Mapped defs R at t (faulty f) → Mapped defs R at (alt t u) (faulty f)
  right_of_alt : {t u t' : Ty} {f : Fault} →
      Mapped defs R at t (typed t') → Mapped defs R at u (faulty f) →
      Mapped defs R at (alt t u) (faulty f)
  of_star : {t t' : Ty} {o : Outcome} →
      Mapped defs R at t (typed t') → concluded at (star t') ≡ o → Mapped defs R at (star t) o
  inside_of_star : {t : Ty} {f : Fault} →
      Mapped defs R at t (faulty f) → Mapped defs R at (star t) (faulty f)
  of_name : {x : ℕ} {t : Ty} {o : Outcome} →
      body_of defs x ≡ Some t → Mapped defs R at t o → Mapped defs R at (named x) o
