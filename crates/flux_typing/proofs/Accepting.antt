-- Acceptance has at most one outcome, and an accepted script runs.
use Rattle.std.specs.Prelude.{IfSome}
use Rattle.std.proofs.Common.{◌≡◌, ℕ, zero, suc, [], Option, Some, None, sym, subst, slice_get}
use Rattle.flux_trees.specs.Hedge.{Plain}
use Rattle.flux_schema.specs.Ty.{Ty}
use Rattle.flux_schema.specs.Definitions.{Definitions, AreKnown}
use Rattle.flux_schema.specs.Member.{Member, Included}
use Rattle.flux_calculus.specs.Core.{Proc, Procs, Declared, Normal}
use Rattle.flux_calculus.specs.Fault.{Fault}
use Rattle.flux_calculus.specs.Derives.{Derives}
use Rattle.flux_typing.specs.Update.{Outcome, typed, Checks, fits, TypesUpdate}
use Rattle.flux_typing.specs.Accepted.{Accepts, Accepted, of_body, of_wrong_body, of_main, of_declared}
use Rattle.flux_typing.specs.Laws.{Grows, AreKnownProcs, AreWellTyped, Runs}
use Rattle.flux_typing.proofs.OneOutcome.{once, checks}
use Rattle.flux_typing.proofs.Growth.{grows_refl, grows_trans, member_grows}
use Rattle.flux_typing.proofs.Kept.{kept}
use Rattle.flux_typing.proofs.Typed.{succeeds}
use Rattle.flux_typing.proofs.Members.{suits_nothing}
use Rattle.flux_typing.proofs.Running.{runs}

module _ {script : Normal} where
  again : {declared : Option Declared} {Δ Δ' : Definitions} {qs : Procs} {t u : Ty} {p : Outcome} → typed t Δ ≡ typed u Δ' → Accepts script declared Δ' qs p → Accepts script declared Δ qs p
  again {declared = declared} {qs = qs} {p = p} e a = let same : _ ≡ _ = cc in subst (λ x. Accepts script declared x qs p) (sym same) a

  pub once_accepted : {declared : Option Declared} {Δ : Definitions} {qs : Procs} {o p : Outcome} → Accepts script declared Δ qs o → Accepts script declared Δ qs p → o ≡ p
  once_accepted (of_body d c a) (of_body d' c' a') = once_accepted a (again (checks (once d d') c c') a')
  once_accepted (of_body d c a) (of_wrong_body d' c') = cc (checks (once d d') c c')
  once_accepted (of_wrong_body d c) (of_body d' c' a') = cc (checks (once d d') c c')
  once_accepted (of_wrong_body d c) (of_wrong_body d' c') = checks (once d d') c c'
  once_accepted (of_main d) (of_main d') = once d d'
  once_accepted (of_declared d c) (of_declared d' c') = checks (once d d') c c'

grows_same : {Δ Δ' : Definitions} → Δ' ≡ Δ → Grows Δ Δ'
grows_same {Δ = Δ} e = subst (Grows Δ) (sym e) (grows_refl Δ)

module _ (script : Normal) where
  -- a body that was tested, from definitions that had grown from the first
  pub record Tested (Δ0 : Definitions) (q : Proc) : Type 0 where
    pub before : Definitions
    pub grown : Grows Δ0 before
    pub type : Ty
    pub after : Definitions
    pub typing : TypesUpdate script.procs before q.params q.focus q.body (typed type after)
    pub included : Included after type q.result

  -- the main statement, typed after all bodies, and included in what is declared
  pub record MainTyped (Δ0 : Definitions) (declared : Option Declared) (u : Ty) (Δ' : Definitions) : Type 0 where
    pub before : Definitions
    pub grown : Grows Δ0 before
    pub typing : TypesUpdate script.procs before [] script.input script.main (typed u Δ')
    pub included : IfSome declared (λ e. Included Δ' u e.ty)

  tested : {Δ0 Δ Δ' : Definitions} {q : Proc} {f : Ty → Ty → Fault} {t : Ty} {a : Outcome} → Grows Δ0 Δ → TypesUpdate script.procs Δ q.params q.focus q.body a → Checks q.result f a (typed t Δ') → Tested Δ0 q × Grows Δ Δ'
  tested {Δ = Δ} {Δ' = Δ'} {t = t} g d (fits i) = (record { before = Δ; grown = g; type = t; after = Δ'; typing = d; included = i }, grows_same (kept (succeeds script.procs d)))

  bodies : {declared : Option Declared} {Δ0 Δ Δ' : Definitions} {qs : Procs} {u : Ty} → Grows Δ0 Δ → Accepts script declared Δ qs (typed u Δ') → (p : ℕ) (q : Proc) → slice_get qs p ≡ Some q → Tested Δ0 q
  bodies g (of_main d) p q e = cc
  bodies g (of_declared d c) p q e = cc
  bodies {Δ0 = Δ0} g (of_body {q = r} d c a) zero q e = let same : r ≡ q = cc in subst (Tested Δ0) same (tested {q = r} g d c).0
  bodies g (of_body {q = r} d c a) (suc p) q e = bodies (grows_trans g (tested {q = r} g d c).1) a p q e

  declared_main : {Δ0 Δ Δ' : Definitions} {u : Ty} {e : Declared} {f : Ty → Ty → Fault} {a : Outcome} → Grows Δ0 Δ → TypesUpdate script.procs Δ [] script.input script.main a → Checks e.ty f a (typed u Δ') → MainTyped Δ0 (Some e) u Δ'
  declared_main {Δ = Δ} g d (fits i) = record { before = Δ; grown = g; typing = d; included = i }

  main_typed : {declared : Option Declared} {Δ0 Δ Δ' : Definitions} {qs : Procs} {u : Ty} → Grows Δ0 Δ → Accepts script declared Δ qs (typed u Δ') → MainTyped Δ0 declared u Δ'
  main_typed {Δ = Δ} g (of_main d) = record { before = Δ; grown = g; typing = d; included = tt }
  main_typed g (of_declared {d = e} d c) = declared_main {e = e} g d c
  main_typed g (of_body {q = r} d c a) = main_typed (grows_trans g (tested {q = r} g d c).1) a

in_declared : (declared : Option Declared) (Δ : Definitions) (u : Ty) (w : Plain) → IfSome declared (λ e. Included Δ u e.ty) → Member Δ w u → IfSome declared (λ e. Member Δ w e.ty)
in_declared None Δ u w i m = tt
in_declared (Some e) Δ u w i m = i w m

pub accepted_run : (script : Normal) (u : Ty) (Δ : Definitions) → AreKnown script.defs → AreKnownProcs script.defs script.procs → Accepted script (typed u Δ) →
    (d : ℕ) (v : Plain) → Member script.defs v script.input → Runs script.procs d [] v script.main Δ u × ((w : Plain) → Derives script.procs d [] v script.main w → IfSome script.declared (λ e. Member Δ w e.ty))
accepted_run script u Δ known procs a d v m =
    let all = bodies script (grows_refl script.defs) a in
    let main = main_typed script (grows_refl script.defs) a in
    let well : AreWellTyped script.procs script.defs = λ p q e. let b = all p q e in
    record { known = procs p q e; before = b.before; grown = b.grown; type = b.type; after = b.after; typing = b.typing; included = b.included } in
    let run = runs script.procs script.defs known well main.before [] script.input script.main u Δ main.grown main.typing d [] v suits_nothing (member_grows main.grown m) in
    (run, λ w x. in_declared script.declared Δ u w main.included (run.preserved w x))
