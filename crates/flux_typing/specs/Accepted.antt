-- Which scripts are accepted, and with which type.
use Rattle.std.specs.Prelude.{[], ◌∷◌, Option, Some, None}
use Rattle.flux_schema.specs.Ty.{Ty}
use Rattle.flux_schema.specs.Definitions.{Definitions}
use Rattle.flux_calculus.specs.Core.{Proc, Procs, Declared, Normal}
use Rattle.flux_calculus.specs.Fault.{Fault, bad_body, bad_output}
use Rattle.flux_typing.specs.Update.{Outcome, typed, faulty, Checks, TypesUpdate}

-- Accepts script declared Δ qs o: with the definitions Δ, where the bodies of the procedures qs are
-- still to be tested, and then the main statement, whose type is held against what is declared
pub data Accepts (script : Normal) : Option Declared → Definitions → Procs → Outcome → Type 0 where
  -- each body in turn, at its declared focus and with the parameters alone bound, has a type that
  -- is included in the declared result
  of_body : {declared : Option Declared} {Δ Δ' : Definitions} {q : Proc} {qs : Procs} {t : Ty} →
      {a o : Outcome} →
      TypesUpdate script.procs Δ q.params q.focus q.body a →
      Checks q.result (bad_body q.result_at) a (typed t Δ') →
      Accepts script declared Δ' qs o → Accepts script declared Δ (q ∷ qs) o
  of_wrong_body : {declared : Option Declared} {Δ : Definitions} {q : Proc} {qs : Procs} →
      {f : Fault} {a : Outcome} →
      TypesUpdate script.procs Δ q.params q.focus q.body a →
      Checks q.result (bad_body q.result_at) a (faulty f) →
      Accepts script declared Δ (q ∷ qs) (faulty f)
  -- the script has the type of the main statement, at the type of its documents and with nothing
  -- bound; where a type is declared, it is included in that
  of_main : {Δ : Definitions} {o : Outcome} →
      TypesUpdate script.procs Δ [] script.input script.main o → Accepts script None Δ [] o
  of_declared : {d : Declared} {Δ : Definitions} {a o : Outcome} →
      TypesUpdate script.procs Δ [] script.input script.main a →
      Checks d.ty (bad_output d.at) a o → Accepts script (Some d) Δ [] o

-- the script is accepted with a type, and with the definitions that then stand; or this is its
-- first fault
abbrev pub Accepted : Normal → Outcome → Type 0
Accepted script o = Accepts script script.declared script.defs script.procs o
