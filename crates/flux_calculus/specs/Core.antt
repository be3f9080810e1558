-- The statements of the core language, after FLUX, and the procedures that they call.
use Rattle.std.specs.Prelude.{ℕ, List, [], ◌∷◌, Option, slice_get}
use Rattle.flux_schema.specs.Ty.{Ty}
use Rattle.flux_schema.specs.Definitions.{Definitions}
use Rattle.flux_calculus.specs.declared.ask.Test.{Test}
use Rattle.flux_calculus.specs.declared.ask.Var.{Var}
use Rattle.flux_calculus.specs.declared.ask.Span.{Span}
use Rattle.flux_calculus.specs.Query.{Query}
use Rattle.flux_calculus.specs.Typing.{Context}

-- a statement updates the forest that it is given, its focus. Each has the span of its text
pub data Core : Type 0 where
  -- the focus stays
  skip : (at : Span) → Core
  -- statements one behind the other: none, or one and then others
  nothing : (at : Span) → Core
  both : (at : Span) (first others : Core) → Core
  -- one of two, as a condition says; one with a variable bound to the value of a query; one with a
  -- variable bound to the focus
  choice : (at : Span) (condition : Query) (yes_part no_part : Core) → Core
  binding : (at : Span) (x : Var) (bound : Query) (body : Core) → Core
  snapshot : (at : Span) (x : Var) (body : Core) → Core
  -- the value of a query takes an empty focus' place; nothing takes the focus' place; one element
  -- gets another label
  insert : (at : Span) (q : Query) → Core
  delete : (at : Span) → Core
  rename : (at : Span) (n : ℕ) → Core
  -- a statement on the one tree where it passes a test, on the content of the one element, on the
  -- empty forest before or behind the focus, on each tree by itself
  test : (at : Span) (t : Test) (body : Core) → Core
  children : (at : Span) (body : Core) → Core
  left : (at : Span) (body : Core) → Core
  right : (at : Span) (body : Core) → Core
  iter : (at : Span) (body : Core) → Core
  -- the procedure with this index, with the values of queries for its parameters
  call : (at : Span) (p : ℕ) (args : List Query) → Core

-- statements one behind the other, with the span of them all
abbrev pub in_order : Span → List Core → Core
in_order at [] = nothing at
in_order at (s ∷ ss) = both at s (in_order at ss)

-- a procedure: its name, its parameters with their types, the type of the focuses that it is
-- declared at, the type of its results and where that is declared, what it does
pub record Proc : Type 0 where
  pub name : ℕ
  pub params : Context
  pub focus : Ty
  pub result : Ty
  pub result_at : ℕ
  pub body : Core

abbrev pub Procs : Type 0
Procs = List Proc

-- the procedure with an index, if there is one
abbrev pub proc_of : Procs → ℕ → Option Proc
proc_of procs p = slice_get procs p

-- a type that a script declares for its results, and where it does
pub record Declared : Type 0 where
  pub ty : Ty
  pub at : ℕ

-- a script in the core language: what its names of types stand for, its procedures, the type of its
-- documents, the type that it declares for its results, if there is one, and its main statement
pub record Normal : Type 0 where
  pub defs : Definitions
  pub procs : Procs
  pub input : Ty
  pub declared : Option Declared
  pub main : Core
