-- Laws of the types of statements and of the acceptance of scripts.
use Rattle.std.specs.Prelude.{◌≡◌, ◌⊎◌, ℕ, [], Some, All, IfSome}
use Rattle.flux_trees.specs.Hedge.{Plain}
use Rattle.flux_schema.specs.Ty.{Ty}
use Rattle.flux_schema.specs.Definitions.{Definitions, body_of, IsKnown, AreKnown, IsGood}
use Rattle.flux_schema.specs.Labels.{Lacks, BodiesLack}
use Rattle.flux_schema.specs.Member.{Member, Included}
use Rattle.flux_calculus.specs.declared.ask.Var.{Var}
use Rattle.flux_calculus.specs.Query.{Query, Environment, found}
use Rattle.flux_calculus.specs.Typing.{Context, Suits, Types, of_query}
use Rattle.flux_calculus.specs.Typing as query
use Rattle.flux_calculus.specs.Core.{Core, Proc, Procs, proc_of, Normal}
use Rattle.flux_calculus.specs.Derives.{Derives, Exceeds}
use Rattle.flux_typing.specs.Update.{Outcome, typed, TypesUpdate}
use Rattle.flux_typing.specs.Accepted.{Accepted}
use Rattle.flux_typing.specs.Labels.{CoreLacks, ContextLacks, ProcsLack}
use Rattle.flux_typing.specs.Spelled.{IsListed, IsSpelled}

-- a statement has at most one outcome, and so has a script
abbrev pub UpdateTypingIsUnique : Type 0
UpdateTypingIsUnique =
    (procs : Procs) (Δ : Definitions) (Γ : Context) (t : Ty) (s : Core) (o p : Outcome) →
    TypesUpdate procs Δ Γ t s o → TypesUpdate procs Δ Γ t s p → o ≡ p

abbrev pub AcceptanceIsUnique : Type 0
AcceptanceIsUnique =
    (script : Normal) (o p : Outcome) → Accepted script o → Accepted script p → o ≡ p

-- no rule adds definitions
abbrev pub UpdateTypingKeepsDefinitions : Type 0
UpdateTypingKeepsDefinitions =
    (procs : Procs) (Δ : Definitions) (Γ : Context) (t : Ty) (s : Core) (u : Ty) →
    (Δ' : Definitions) → TypesUpdate procs Δ Γ t s (typed u Δ') → Δ' ≡ Δ

-- the type of each variable is known
abbrev pub AllKnown : Definitions → Context → Type 0
AllKnown Δ Γ = (x : Var) (t : Ty) → found Γ x ≡ Some t → IsKnown Δ t

-- the types that a procedure declares are known
pub record IsKnownProc (Δ : Definitions) (q : Proc) : Type 0 where
  pub params : All (λ p. IsKnown Δ p.1) q.params
  pub focus : IsKnown Δ q.focus
  pub result : IsKnown Δ q.result

abbrev pub AreKnownProcs : Definitions → Procs → Type 0
AreKnownProcs Δ procs = (p : ℕ) (q : Proc) → proc_of procs p ≡ Some q → IsKnownProc Δ q

-- the type of a statement is known, where what it stands on is
abbrev pub ResultsAreKnown : Type 0
ResultsAreKnown =
    (procs : Procs) (Δ : Definitions) (Γ : Context) (t : Ty) (s : Core) (u : Ty) →
    (Δ' : Definitions) → AreKnown Δ → AreKnownProcs Δ procs → AllKnown Δ Γ → IsKnown Δ t →
    TypesUpdate procs Δ Γ t s (typed u Δ') → IsKnown Δ' u

-- a label that stands in nothing that a statement stands on doesn't stand in its type
abbrev pub ResultsLack : Type 0
ResultsLack =
    (procs : Procs) (Δ : Definitions) (Γ : Context) (t : Ty) (s : Core) (u : Ty) →
    (Δ' : Definitions) → AreKnown Δ → AreKnownProcs Δ procs → AllKnown Δ Γ → IsKnown Δ t →
    (n : ℕ) → BodiesLack n Δ → ProcsLack n procs → ContextLacks n Γ → CoreLacks n s →
    Lacks n t → TypesUpdate procs Δ Γ t s (typed u Δ') → Lacks n u

-- the second definitions have each body of the first
pub record Grows (Δ Δ' : Definitions) : Type 0 where
  pub keeps : (x : ℕ) (t : Ty) → body_of Δ x ≡ Some t → body_of Δ' x ≡ Some t

-- a procedure's body, at its declared focus and with its parameters alone, has a type that is
-- included in its declared result; it was typed when these definitions stood, or more
pub record IsWellTyped (procs : Procs) (Δ : Definitions) (q : Proc) : Type 0 where
  pub known : IsKnownProc Δ q
  pub before : Definitions
  pub grown : Grows Δ before
  pub type : Ty
  pub after : Definitions
  pub typing : TypesUpdate procs before q.params q.focus q.body (typed type after)
  pub included : Included after type q.result

abbrev pub AreWellTyped : Procs → Definitions → Type 0
AreWellTyped procs Δ = (p : ℕ) (q : Proc) → proc_of procs p ≡ Some q → IsWellTyped procs Δ q

-- on this forest and with so many calls to go, a statement derives a forest or meets a call with
-- none left, and not both; what it derives is a member of the type
pub record Runs (procs : Procs) (d : ℕ) (γ : Environment) (v : Plain) (s : Core)
    (Δ : Definitions) (t : Ty) : Type 0 where
  pub some :
      ((w : Plain) × Derives procs d γ v s w) ⊎ ((place : ℕ) × Exceeds procs d γ v s place)
  pub not_both : (w : Plain) (place : ℕ) →
      Derives procs d γ v s w → ¬ (Exceeds procs d γ v s place)
  pub preserved : (w : Plain) → Derives procs d γ v s w → Member Δ w t

-- a typed statement runs on each member of the type that it is typed at, where each variable is
-- bound to a member of its type
abbrev pub TypedStatementsRun : Type 0
TypedStatementsRun =
    (procs : Procs) (Δ : Definitions) (Γ : Context) (t : Ty) (s : Core) (u : Ty) →
    (Δ' : Definitions) → AreKnown Δ → AreWellTyped procs Δ →
    TypesUpdate procs Δ Γ t s (typed u Δ') →
    (d : ℕ) (γ : Environment) (v : Plain) → Suits Δ Γ γ → Member Δ v t →
    Runs procs d γ v s Δ' u

-- preservation and progress: the main statement of an accepted script runs on each member of the
-- type of its documents, at each depth; what it derives is a member of the type that was found, and
-- of the declared one where one is declared
abbrev pub AcceptedScriptsRun : Type 0
AcceptedScriptsRun =
    (script : Normal) (u : Ty) (Δ : Definitions) →
    AreKnown script.defs → AreKnownProcs script.defs script.procs →
    Accepted script (typed u Δ) →
    (d : ℕ) (v : Plain) → Member script.defs v script.input →
    Runs script.procs d [] v script.main Δ u
    × ((w : Plain) → Derives script.procs d [] v script.main w →
    IfSome script.declared (λ e. Member Δ w e.ty))

-- of known types it is decided whether one is included in another: it is, or there is a forest
-- against it
abbrev pub Decides : Definitions → Type 0
Decides Δ =
    (t u : Ty) → IsKnown Δ t → IsKnown Δ u →
    Included Δ t u ⊎ ((v : Plain) × Member Δ v t × ¬ (Member Δ v u))

-- no rule is missing: each query has an outcome, and each statement, under good definitions where
-- inclusion is decided
abbrev pub QueriesHaveOutcomes : Type 0
QueriesHaveOutcomes =
    (Δ : Definitions) (Γ : Context) (q : Query) → IsGood Δ → Decides Δ → IsListed q →
    AllKnown Δ Γ →
    (o : query.Outcome) × Types Δ (of_query Γ q) o

abbrev pub UpdatesHaveOutcomes : Type 0
UpdatesHaveOutcomes =
    (procs : Procs) (Δ : Definitions) (Γ : Context) (t : Ty) (s : Core) →
    IsGood Δ → Decides Δ → AreKnownProcs Δ procs → IsSpelled procs s → AllKnown Δ Γ →
    IsKnown Δ t → (o : Outcome) × TypesUpdate procs Δ Γ t s o
