-- What the typing of statements answers, and what it may be asked of.
use Rattle.std.specs.Prelude.{◌≡◌, ℕ, List, [], ◌∷◌, Option, Some, None, All}
use Rattle.flux_schema.specs.Ty.{Ty}
use Rattle.flux_schema.specs.Definitions.{Definitions}
use Rattle.flux_schema.specs.Labels.{Lacks}
use Rattle.flux_types.specs.Read.{ty_of}
use Rattle.flux_types.specs.Verdicts.{IsEvidence}
use Rattle.flux_calculus.specs.Query.{Query}
use Rattle.flux_calculus.specs.declared.ask.Span.{Span}
use Rattle.flux_calculus.specs.declared.ask.Var.{Var}
use Rattle.flux_calculus.specs.Fault.{Fault}
use Rattle.flux_calculus.specs.Typing.{Context, Outcome, typed, faulty}
use Rattle.flux_calculus.specs.Core.{Core, choice, Proc, Procs, proc_of}
use Rattle.flux_query.specs.declared.query.Query.{Query as Argument}
use Rattle.flux_query.specs.Read.{query_of}
use Rattle.flux_typing.specs.Update.{Arguments, Has, of_map, TypesUpdate, with_definitions}
use Rattle.flux_typing.specs.Labels.{ProcsLack}
use Rattle.flux_core.specs.declared.fault.KindFault.{KindFault}
use Rattle.flux_core.specs.declared.param.Param.{Param}
use Rattle.flux_core.specs.Faults.{IsFault, IsUsable}
use Rattle.flux_querytype.specs.Answers.{QueryLacks, IsReady}

-- at the type, the statement has this outcome, and the definitions before it stand behind it
abbrev pub Comes : Procs → Definitions → Context → Ty → Core → Outcome → Type 0
Comes procs defs Γ t s o = TypesUpdate procs defs Γ t s (with_definitions defs o)

-- at each tree of the type, the statement has an outcome, and this is what becomes of the type
abbrev pub MapComes : Procs → ℕ → Definitions → Context → Ty → Core → Outcome → Type 0
MapComes procs at defs Γ t s o = Has procs (of_map at defs Γ t s) (with_definitions defs o)

-- the statement is typed with this fault; a forest that is shown has labels that were given, and
-- `other`
abbrev pub IsUpdateFault : Definitions → ℕ → Procs → Context → Ty → Core → KindFault → Type 0
IsUpdateFault defs other procs Γ t s = IsFault (IsEvidence defs other) (Comes procs defs Γ t s)

-- a choice with this condition has this outcome, whatever its parts are
abbrev pub InAnyChoice : Procs → Definitions → Context → Ty → Query → Outcome → Type 0
InAnyChoice procs defs Γ t c o = (at : Span) (s r : Core) → Comes procs defs Γ t (choice at c s r) o

-- what the arguments come to: all fit their parameters, or this is the first fault
abbrev pub ArgumentsCome : Definitions → Context → Context → List Query → Outcome → Type 0
ArgumentsCome defs Γ ps qs (typed t) = Arguments defs Γ ps qs None
ArgumentsCome defs Γ ps qs (faulty f) = Arguments defs Γ ps qs (Some f)

-- the types that a procedure declares can be used
pub record IsUsableProc (defs : Definitions) (q : Proc) : Type 0 where
  pub params : All (λ p. IsUsable defs p.1) q.params
  pub focus : IsUsable defs q.focus
  pub result : IsUsable defs q.result

abbrev pub AreUsableProcs : Definitions → Procs → Type 0
AreUsableProcs defs procs = (p : ℕ) (q : Proc) → proc_of procs p ≡ Some q → IsUsableProc defs q

-- a type, procedures and the types of variables can be used under the definitions, which are kept,
-- and the label stands in none of them
pub record IsStage (defs : Definitions) (other : ℕ) (Γ : Context) (procs : Procs) (t : Ty) :
    Type 0 where
  pub ready : IsReady defs other Γ
  pub procs_usable : AreUsableProcs defs procs
  pub procs_lack : ProcsLack other procs
  pub usable : IsUsable defs t
  pub lacks : Lacks other t

-- each parameter and its argument: the type can be used, and the label stands in neither
abbrev pub ArePassable : Definitions → ℕ → List Param → List Argument → Type 0
ArePassable defs other [] [] = Unit {0}
ArePassable defs other [] (q ∷ qs) = ⊥
ArePassable defs other (p ∷ ps) [] = ⊥
ArePassable defs other (p ∷ ps) (q ∷ qs) =
    (IsUsable defs (ty_of p.ty) × Lacks other (ty_of p.ty) × QueryLacks other (query_of q))
    × ArePassable defs other ps qs

-- an argument fits its parameter, whatever comes behind them
abbrev pub IsPassed : Definitions → Context → Var × Ty → Query → Type 0
IsPassed defs Γ p q =
    (ps : Context) (qs : List Query) (o : Option Fault) →
    Arguments defs Γ ps qs o → Arguments defs Γ (p ∷ ps) (q ∷ qs) o

-- arguments that begin with this one have this outcome
abbrev pub InAnyCall : Definitions → Context → Var × Ty → Query → Outcome → Type 0
InAnyCall defs Γ p q o =
    (ps : Context) (qs : List Query) → ArgumentsCome defs Γ (p ∷ ps) (q ∷ qs) o
