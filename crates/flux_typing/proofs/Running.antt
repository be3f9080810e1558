-- Typed statements run, at each depth.
use Rattle.std.proofs.Common.{inl, inr, ℕ, zero, suc, subst}
use Rattle.flux_trees.specs.Hedge.{Plain}
use Rattle.flux_schema.specs.Ty.{Ty}
use Rattle.flux_schema.specs.Definitions.{Definitions, AreKnown}
use Rattle.flux_schema.specs.Member.{Member}
use Rattle.flux_calculus.specs.Query.{Environment}
use Rattle.flux_calculus.specs.Typing.{Context, Suits}
use Rattle.flux_calculus.specs.Core.{Core, Procs}
use Rattle.flux_calculus.specs.Derives.{calls, here, in_call}
use Rattle.flux_calculus.proofs.Agree.{derives_one, never_both}
use Rattle.flux_typing.specs.Update.{typed, TypesUpdate}
use Rattle.flux_typing.specs.Laws.{Grows, AreWellTyped, Runs}
use Rattle.flux_typing.proofs.Typed.{succeeds}
use Rattle.flux_typing.proofs.Growth.{each_all, grows_refl, grows_trans, member_grows, member_back, suits_grows, suits_back}
use Rattle.flux_typing.proofs.Sound.{either, Fine, CallsAreFine, sound}

module _ (procs : Procs) (Δ : Definitions) (known : AreKnown Δ) (well : AreWellTyped procs Δ) where
  calls_are_fine : (d : ℕ) → CallsAreFine procs d Δ
  calls_are_fine zero p q e Δ' g γ δ at args v f h m = inr (at.from, here)
  calls_are_fine (suc d) p q e Δ' g γ δ at args v f h m =
      let w = well p q e in
      let s = sound procs d Δ (calls_are_fine d) (succeeds procs w.typing) w.grown in
      let body = s.1 δ (suits_grows q.params δ w.grown (suits_back q.params δ g known (each_all Δ q.params w.known.params) h)) v (member_grows w.grown (member_back g known w.known.focus m)) in
      either body (λ a. inl (a.0, calls e f a.1, member_grows g (member_back (grows_trans w.grown s.0) known w.known.result (w.included a.0 a.2)))) (λ x. inr (x.0, in_call e f x.1))

  pub runs : (Δ1 : Definitions) (Γ : Context) (t : Ty) (s : Core) (u : Ty) (Δ' : Definitions) → Grows Δ Δ1 → TypesUpdate procs Δ1 Γ t s (typed u Δ') → (d : ℕ) (γ : Environment) (v : Plain) → Suits Δ1 Γ γ → Member Δ1 v t → Runs procs d γ v s Δ' u
  runs Δ1 Γ t s u Δ' g ty d γ v h m = by ((sound procs d Δ (calls_are_fine d) (succeeds procs ty) g).1 γ h v m)
    where
      by : Fine procs d γ v s Δ' u → Runs procs d γ v s Δ' u
      by (inl (w, x, k)) = record { some = inl (w, x); not_both = λ z at a b. never_both a b; preserved = λ z a. subst (λ y. Member Δ' y u) (derives_one x a) k }
      by (inr (place, x)) = record { some = inr (place, x); not_both = λ z at a b. never_both a b; preserved = λ z a. absurd (never_both a x) }

pub typed_run : (procs : Procs) (Δ : Definitions) (Γ : Context) (t : Ty) (s : Core) (u : Ty) (Δ' : Definitions) → AreKnown Δ → AreWellTyped procs Δ → TypesUpdate procs Δ Γ t s (typed u Δ') →
    (d : ℕ) (γ : Environment) (v : Plain) → Suits Δ Γ γ → Member Δ v t → Runs procs d γ v s Δ' u
typed_run procs Δ Γ t s u Δ' known well ty d γ v h m = runs procs Δ known well Δ Γ t s u Δ' (grows_refl Δ) ty d γ v h m
