-- What holds before a call and behind it: the definitions, the label and the variables are the same.
use Rattle.std.proofs.Common.{◌≡◌, ℕ, Bool, List, Result, Ok, Err, IsErrAnd, IfErr, sym, subst}
use Rattle.flux_trees.specs.Draft.{Draft}
use Rattle.flux_schema.specs.Ty.{Ty}
use Rattle.flux_schema.specs.Definitions.{Definitions}
use Rattle.flux_schema.specs.Member.{Included}
use Rattle.flux_types.specs.declared.decider.Verdict.{Verdict}
use Rattle.flux_types.specs.declared.decider.Verdict.TheVariants.{Yes, No}
use Rattle.flux_types.specs.Verdicts.{TypePair, IsEvidence, IsVerdict}
use Rattle.flux_calculus.specs.Fault.{Fault}
use Rattle.flux_calculus.specs.Typing.{Context, Outcome, faulty}
use Rattle.flux_core.specs.declared.fault.KindFault.{KindFault}
use Rattle.flux_core.specs.Faults.{IsFault}
use Rattle.flux_core.proofs.Replies.{fault_carried}
use Rattle.flux_querytype.specs.Answers.{Leaves}

module _ {D : Type 0} {under : D → Definitions} {unnamed : D → ℕ} {remembers : D → Bool} {knows : D → List TypePair} where
  pub as_before : (P : Definitions → ℕ → Context → Type 0) {d d' : D} {Γ Γ' : Context} → Leaves under unnamed remembers knows d d' Γ Γ' → P (under d') (unnamed d') Γ' → P (under d) (unnamed d) Γ
  as_before P {d} {d'} {Γ} {Γ'} l h = subst (λ G. P (under d) (unnamed d) G) l.gamma (subst (λ n. P (under d) n Γ') l.other (subst (λ e. P e (unnamed d') Γ') l.definitions h))

  pub as_behind : (P : Definitions → ℕ → Context → Type 0) {d d' : D} {Γ Γ' : Context} → Leaves under unnamed remembers knows d d' Γ Γ' → P (under d) (unnamed d) Γ → P (under d') (unnamed d') Γ'
  as_behind P {d} {d'} {Γ} {Γ'} l h = subst (λ G. P (under d') (unnamed d') G) (sym l.gamma) (subst (λ n. P (under d') n Γ) (sym l.other) (subst (λ e. P e (unnamed d) Γ) (sym l.definitions) h))

-- a fault that is passed on, by a call that answers no type
pub passed_by : {A : Type 0} (S : Ty → Ty → Draft (Unit {0}) → Type 0) (P Q : Outcome → Type 0) (e : KindFault) (r : Result A KindFault) → ((f : Fault) → P (faulty f) → Q (faulty f)) → IsFault S P e → IsErrAnd r (λ y. y ≡ e) → IfErr r (IsFault S Q)
passed_by S P Q e (Ok x) g h i = tt
passed_by S P Q e (Err y) g h i = let R : KindFault → Type 0 = λ y. IsFault S Q y in subst R (sym i) (fault_carried S P Q e g h)

-- ---- verdicts, on types that are the same

pub against : (defs : Definitions) (other : ℕ) (a w t u : Ty) (v : Verdict) (f : Draft (Unit {0})) → a ≡ t → w ≡ u → v ≡ No f → IsVerdict defs other a w v → IsEvidence defs other t u f
against defs other a w t u v f e g n h =
    let P : Verdict → Type 0 = λ v. IsVerdict defs other a w v in
    let Q : Ty → Type 0 = λ a. IsEvidence defs other a w f in
    let R : Ty → Type 0 = λ w. IsEvidence defs other t w f in
    subst R g (subst Q e (subst P n h))

pub agreed : (defs : Definitions) (other : ℕ) (a w t u : Ty) (v : Verdict) → a ≡ t → w ≡ u → v ≡ Yes → IsVerdict defs other a w v → Included defs t u
agreed defs other a w t u v e g n h =
    let P : Verdict → Type 0 = λ v. IsVerdict defs other a w v in
    let Q : Ty → Type 0 = λ a. Included defs a w in
    let R : Ty → Type 0 = λ w. Included defs t w in
    subst R g (subst Q e (subst P n h))
