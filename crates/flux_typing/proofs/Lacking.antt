-- A label that stands in nothing that a statement stands on doesn't stand in its type.
use Rattle.std.proofs.Common.{◌≡◌, ℕ, length}
use Rattle.flux_schema.specs.Ty.{Ty}
use Rattle.flux_schema.specs.Definitions.{Definitions, IsKnown, AreKnown}
use Rattle.flux_schema.specs.Labels.{Lacks, BodiesLack}
use Rattle.flux_calculus.specs.Typing.{Context}
use Rattle.flux_calculus.specs.Core.{Core, Procs}
use Rattle.flux_typing.specs.Labels.{CoreLacks, ContextLacks, ProcsLack}
use Rattle.flux_typing.specs.Update.{typed, TypesUpdate}
use Rattle.flux_typing.specs.Laws.{AllKnown, AreKnownProcs}
use Rattle.flux_typing.proofs.Typed.{succeeds}
use Rattle.flux_typing.proofs.Names.{knows}

pub typed_lacks : (procs : Procs) (Δ : Definitions) (Γ : Context) (t : Ty) (s : Core) (u : Ty) (Δ' : Definitions) → AreKnown Δ → AreKnownProcs Δ procs → AllKnown Δ Γ → IsKnown Δ t → (n : ℕ) → BodiesLack n Δ → ProcsLack n procs → ContextLacks n Γ → CoreLacks n s → Lacks n t → TypesUpdate procs Δ Γ t s (typed u Δ') → Lacks n u
typed_lacks procs Δ Γ t s u Δ' known types vars below n bodies results gamma core lacks d =
    (knows procs (length Δ) (λ m. ¬ (m ≡ n)) (λ p q e. ((types p q e).result, (results p q e).result)) (succeeds procs d) (λ x t e. (known x t e, bodies x t e)) (λ x t e. (vars x t e, gamma x t e)) core (below, lacks)).1.1
