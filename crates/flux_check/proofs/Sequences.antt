-- Statements one behind the other, where some are still to come.
use Rattle.std.proofs.Common.{◌≡◌, ◌≤◌, ◌<◌, ◌+◌, ◌∙◌, ℕ, List, ◌∷◌, map, length, drop, drop-cons, add-one, get_or, Result, IsErrAnd, sym, ap, ap₂, subst, arith}
use Rattle.std.proofs.lemmas.List.{drop_all}
use Rattle.flux_schema.specs.Ty.{Ty, IsWithinLimits}
use Rattle.flux_schema.specs.Definitions.{Definitions}
use Rattle.flux_types.specs.Verdicts.{IsEvidence}
use Rattle.flux_calculus.specs.declared.ask.Span.{Span}
use Rattle.flux_calculus.specs.Typing.{Context, Outcome, typed, faulty}
use Rattle.flux_calculus.specs.Core.{Procs, in_order}
use Rattle.flux_typing.specs.Labels.{CoreLacks}
use Rattle.flux_typing.specs.Update.{of_nothing}
use Rattle.flux_core.specs.declared.statement.Core.{Core}
use Rattle.flux_core.specs.declared.fault.KindFault.{KindFault}
use Rattle.flux_core.specs.declared.measured.Measured.{Measured}
use Rattle.flux_core.specs.Faults.{IsFault}
use Rattle.flux_core.specs.Answers.{IsAnswer}
use Rattle.flux_core.specs.Statements.{core_of}
use Rattle.flux_core.specs.WellFormed.{CallsFit}
use Rattle.flux_core.proofs.Replies.{passed_on}
use Rattle.flux_check.specs.Answers.{Comes, IsStage}
use Rattle.flux_check.proofs.Rules.{first_faulty, follows}
use Rattle.flux_check.proofs.Stages.{stage_typed}
use Rattle.flux_check.proofs.Weights.{weight, weights}

module _ (defs : Definitions) (other : ℕ) (Γ : Context) (procs : Procs) (t : Ty) (at : Span) (all : List Core) where
  -- what comes of those to come, at a type, comes of all
  pub record Going (more : List Core) (u : Ty) : Type 0 where
    pub stage : IsStage defs other Γ procs u
    pub lacks : CoreLacks other (in_order at (map core_of more))
    pub calls : CallsFit procs (in_order at (map core_of more))
    pub fewer : weights more ≤ weights all
    pub goes_on : (o : Outcome) → Comes procs defs Γ u (in_order at (map core_of more)) o → Comes procs defs Γ t (in_order at (map core_of all)) o

  pub going_all : IsStage defs other Γ procs t → CoreLacks other (in_order at (map core_of all)) → CallsFit procs (in_order at (map core_of all)) → Going all t
  going_all s l c = record { stage = s; lacks = l; calls = c; fewer = omega arith; goes_on = λ o a. a }

  pub going_next : (more rest : List Core) (s : Core) (u : Ty) → more ≡ s ∷ rest → Going more u → Going (s ∷ rest) u
  going_next more rest s u e h = subst (λ l. Going l u) e h

  pub going_more : (more rest : List Core) (s : Core) (u w : Ty) → more ≡ s ∷ rest → Going more u → Comes procs defs Γ u (core_of s) (typed w) → IsWithinLimits w → Going rest w
  going_more more rest s u w e h d limits =
      let k = going_next more rest s u e h in
      record { stage = stage_typed u (core_of s) w k.lacks.0 d limits k.stage; lacks = k.lacks.1; calls = k.calls.1; fewer = omega (arith, k.fewer); goes_on = λ o a. k.goes_on o (follows o d a) }

  pub going_fault : (more rest : List Core) (s : Core) (u : Ty) (e : KindFault) (r : Result Measured KindFault) → more ≡ s ∷ rest → Going more u → IsFault (IsEvidence defs other) (Comes procs defs Γ u (core_of s)) e → IsErrAnd r (λ y. y ≡ e) → IsAnswer (IsEvidence defs other) (Comes procs defs Γ t (in_order at (map core_of all))) r
  going_fault more rest s u e r i h d j =
      let k = going_next more rest s u i h in
      passed_on (IsEvidence defs other) (Comes procs defs Γ u (core_of s)) (Comes procs defs Γ t (in_order at (map core_of all))) e r (λ f x. k.goes_on (faulty f) (first_faulty x)) d j

  pub going_end : (i : ℕ) (u : Ty) → length all ≤ i → Going (drop i all) u → Comes procs defs Γ t (in_order at (map core_of all)) (typed u)
  going_end i u le h = (subst (λ l. Going l u) (drop_all i all le) h).goes_on (typed u) of_nothing

-- the statement that is next
pub next_of : (all : List Core) (i : ℕ) (s : Core) → i < length all → s ≡ get_or all i s → drop i all ≡ s ∷ drop (i + 1) all
next_of all i s lt is = drop-cons all i s lt ∙ ap₂ (λ x n. x ∷ drop n all) (sym is) (sym (add-one i))

pub weight_next : (all more rest : List Core) (s : Core) → more ≡ s ∷ rest → weights more ≤ weights all → weight (core_of s) ≤ weights all
weight_next all more rest s e h = omega (arith, ap weights e, h)
