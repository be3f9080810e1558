-- Answers that are passed on, and conclusions.
use Rattle.std.proofs.Common.{◌≡◌, ℕ, Bool, true, false, ◌&&◌, arith, Some, Result, Ok, Err, IsErrAnd, refl, subst, sym, if◌then◌else◌}
use Rattle.std.proofs.lemmas.Bool.{lt-ltb}
use Rattle.flux_trees.specs.Draft.{Draft}
use Rattle.flux_schema.specs.Ty.{Ty, size, height, IsWithinLimits}
use Rattle.flux_schema.specs.Definitions.{Definitions, body_of}
use Rattle.flux_types.specs.Kept.{AreKept}
use Rattle.flux_calculus.specs.Fault.{Fault, too_large, not_bool, not_int, not_empty, bad_argument, bad_focus, bad_body, bad_output}
use Rattle.flux_calculus.specs.Typing.{Outcome, typed, faulty, is_within, concluded}
use Rattle.flux_core.specs.declared.fault.KindFault.{KindFault}
use Rattle.flux_core.specs.declared.fault.KindFault.TheVariants.{UnknownVar, NotSingle, NotElement, NotEmpty, NotBool, NotInt, BadArgument, BadFocus, BadBody, BadOutput, TypeTooLarge, Memory}
use Rattle.flux_core.specs.declared.measured.Measured.{Measured}
use Rattle.flux_core.specs.Faults.{IsShown, ShowsNothing, IsFault, IsUsable}
use Rattle.flux_core.specs.Answers.{IsAnswer, IsConclusion}

module _ (S : Ty → Ty → Draft (Unit {0}) → Type 0) where
  shown_carried : (P Q : Outcome → Type 0) (fault : Ty → Ty → Fault) (shown : Draft (Unit {0})) → ((f : Fault) → P (faulty f) → Q (faulty f)) → IsShown S P fault shown → IsShown S Q fault shown
  shown_carried P Q fault shown g h = (h.0, h.1, g _ h.2, h.3)

  -- a fault of one goal is one of another
  pub fault_carried : (P Q : Outcome → Type 0) (e : KindFault) → ((f : Fault) → P (faulty f) → Q (faulty f)) → IsFault S P e → IsFault S Q e
  fault_carried P Q (UnknownVar place) g h = g _ h
  fault_carried P Q (NotSingle place) g h = g _ h
  fault_carried P Q (NotElement place) g h = g _ h
  fault_carried P Q (NotEmpty place shown) g h = shown_carried P Q (not_empty place) shown g h
  fault_carried P Q (NotBool place shown) g h = shown_carried P Q (not_bool place) shown g h
  fault_carried P Q (NotInt place shown) g h = shown_carried P Q (not_int place) shown g h
  fault_carried P Q (BadArgument place shown) g h = shown_carried P Q (bad_argument place) shown g h
  fault_carried P Q (BadFocus place shown) g h = shown_carried P Q (bad_focus place) shown g h
  fault_carried P Q (BadBody place shown) g h = shown_carried P Q (bad_body place) shown g h
  fault_carried P Q (BadOutput place shown) g h = shown_carried P Q (bad_output place) shown g h
  fault_carried P Q (TypeTooLarge place) g h = g _ h
  fault_carried P Q (Memory error) g h = tt

  -- an answer for one goal is one for another
  pub answer_carried : (P Q : Outcome → Type 0) (r : Result Measured KindFault) → ((o : Outcome) → P o → Q o) → IsAnswer S P r → IsAnswer S Q r
  answer_carried P Q (Ok made) g h = g _ h
  answer_carried P Q (Err e) g h = fault_carried P Q e (λ f. g (faulty f)) h

  -- a fault that is passed on
  pub passed_on : (P Q : Outcome → Type 0) (e : KindFault) (r : Result Measured KindFault) → ((f : Fault) → P (faulty f) → Q (faulty f)) → IsFault S P e → IsErrAnd r (λ y. y ≡ e) → IsAnswer S Q r
  passed_on P Q e (Ok made) g h i = absurd i
  passed_on P Q e (Err y) g h i = let R : KindFault → Type 0 = λ y. IsFault S Q y in subst R (sym i) (fault_carried P Q e g h)

-- ---- conclusions

nothing_shown : (P : Outcome → Type 0) (fault : Ty → Ty → Fault) (shown : Draft (Unit {0})) {A : Type 0} → IsShown ShowsNothing P fault shown → A
nothing_shown P fault shown h = absurd h.3

-- a fault without a forest, where one may be shown
pub large_carried : (S : Ty → Ty → Draft (Unit {0}) → Type 0) (P Q : Outcome → Type 0) (e : KindFault) → ((f : Fault) → P (faulty f) → Q (faulty f)) → IsFault ShowsNothing P e → IsFault S Q e
large_carried S P Q (UnknownVar place) g h = g _ h
large_carried S P Q (NotSingle place) g h = g _ h
large_carried S P Q (NotElement place) g h = g _ h
large_carried S P Q (NotEmpty place shown) g h = nothing_shown P (not_empty place) shown h
large_carried S P Q (NotBool place shown) g h = nothing_shown P (not_bool place) shown h
large_carried S P Q (NotInt place shown) g h = nothing_shown P (not_int place) shown h
large_carried S P Q (BadArgument place shown) g h = nothing_shown P (bad_argument place) shown h
large_carried S P Q (BadFocus place shown) g h = nothing_shown P (bad_focus place) shown h
large_carried S P Q (BadBody place shown) g h = nothing_shown P (bad_body place) shown h
large_carried S P Q (BadOutput place shown) g h = nothing_shown P (bad_output place) shown h
large_carried S P Q (TypeTooLarge place) g h = g _ h
large_carried S P Q (Memory error) g h = tt

-- an answer that shows no forest, where one may be shown
pub answer_shown : (S : Ty → Ty → Draft (Unit {0}) → Type 0) (P : Outcome → Type 0) (r : Result Measured KindFault) → IsAnswer ShowsNothing P r → IsAnswer S P r
answer_shown S P (Ok made) h = h
answer_shown S P (Err e) h = large_carried S P P e (λ f m. m) h

-- a conclusion is what comes
pub from_conclusion : (S : Ty → Ty → Draft (Unit {0}) → Type 0) (Q : Outcome → Type 0) (at : ℕ) (t : Ty) (r : Result Measured KindFault) → ((o : Outcome) → concluded at t ≡ o → Q o) → IsConclusion at t r → IsAnswer S Q r
from_conclusion S Q at t (Ok made) g h = g _ h
from_conclusion S Q at t (Err e) g h = large_carried S (λ o. concluded at t ≡ o) Q e (λ f. g (faulty f)) h

within_by : (b : Bool) (at : ℕ) (t : Ty) → b ≡ true → (if b then typed t else faulty (too_large at)) ≡ typed t
within_by true at t e = refl
within_by false at t e = cc

both_hold : (a b : Bool) → a ≡ true → b ≡ true → a && b ≡ true
both_hold true b e f = f
both_hold false b e f = cc

within_limits : (t : Ty) → IsWithinLimits t → is_within t ≡ true
within_limits t h = both_hold _ _ (lt-ltb (size t) 65537 (omega (arith, h.nodes))) (lt-ltb (height t) 501 (omega (arith, h.levels)))

-- a type within the limits is concluded
pub concluded_within : (at : ℕ) (t : Ty) → IsWithinLimits t → concluded at t ≡ typed t
concluded_within at t h = within_by (is_within t) at t (within_limits t h)

pub body_usable : (defs : Definitions) (x : ℕ) (t : Ty) → AreKept defs → body_of defs x ≡ Some t → IsUsable defs t
body_usable defs x t kept e = record { known = kept.good.known x t e; limits = kept.limits x t e }
