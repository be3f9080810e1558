-- The names that stand in a normal form: labels, names of types and of procedures, and variables
-- that a script names.
use Rattle.std.specs.Prelude.{ℕ, Option, Some, None, All, Contains}
use Rattle.flux_calculus.specs.declared.ask.Var.{Var}
use Rattle.flux_calculus.specs.declared.ask.Var.TheVariants.{Named, Made}
use Rattle.flux_calculus.specs.Core as core
use Rattle.flux_calculus.specs.Core.{Core, Proc, Declared, Normal, skip, snapshot, insert, delete, rename, test, children, left, right, iter, call}
use Rattle.flux_calculus.specs.Labels.{EachLabelOfTest}
use Rattle.flux_calculus.specs.Query as query
use Rattle.flux_calculus.specs.Query.{Query, element, literal, variable, alike, less, child, filter, each}
use Rattle.flux_grammar.specs.declared.tree.Script.{Script}
use Rattle.flux_grammar.specs.Names.{names_in_script}
use Rattle.flux_grammar.specs.NormalForm.{IsNormalForm}
use Rattle.flux_schema.specs.Labels.{EachLabelOf, EachLabelOfBodies}
use Rattle.flux_schema.specs.Ty.{Ty}

module _ (P : ℕ → Type 0) where
  -- P holds of the name of the variable; one that is made has none
  abbrev pub VarNames : Var → Type 0
  VarNames (Named x) = P x
  VarNames (Made i) = Unit {0}

  -- of each label of the query, in an element or in a test, and of each variable
  abbrev pub QueryNames : Query → Type 0
  QueryNames (query.nothing at) = Unit {0}
  QueryNames (query.both at q r) = QueryNames q × QueryNames r
  QueryNames (element at n q) = P n × QueryNames q
  QueryNames (literal at x) = Unit {0}
  QueryNames (variable at x) = VarNames x
  QueryNames (query.binding at x q r) = VarNames x × QueryNames q × QueryNames r
  QueryNames (query.choice at c q r) = QueryNames c × QueryNames q × QueryNames r
  QueryNames (alike at q r) = QueryNames q × QueryNames r
  QueryNames (less at q r) = QueryNames q × QueryNames r
  QueryNames (child at x) = VarNames x
  QueryNames (filter at q t) = QueryNames q × EachLabelOfTest P t
  QueryNames (each at x q r) = VarNames x × QueryNames q × QueryNames r

  -- of each label of the statement, and of each variable; the queries in it among its parts
  abbrev pub CoreNames : Core → Type 0
  CoreNames (skip at) = Unit {0}
  CoreNames (core.nothing at) = Unit {0}
  CoreNames (core.both at s t) = CoreNames s × CoreNames t
  CoreNames (core.choice at c s t) = QueryNames c × CoreNames s × CoreNames t
  CoreNames (core.binding at x q s) = VarNames x × QueryNames q × CoreNames s
  CoreNames (snapshot at x s) = VarNames x × CoreNames s
  CoreNames (insert at q) = QueryNames q
  CoreNames (delete at) = Unit {0}
  CoreNames (rename at n) = P n
  CoreNames (test at t s) = EachLabelOfTest P t × CoreNames s
  CoreNames (children at s) = CoreNames s
  CoreNames (left at s) = CoreNames s
  CoreNames (right at s) = CoreNames s
  CoreNames (iter at s) = CoreNames s
  CoreNames (call at p qs) = All QueryNames qs

  -- of a parameter and the labels of its type, and of those of the type that is declared
  abbrev pub ParamNames : Var × Ty → Type 0
  ParamNames p = VarNames p.0 × EachLabelOf P p.1

  abbrev pub DeclaredNames : Option Declared → Type 0
  DeclaredNames None = Unit {0}
  DeclaredNames (Some d) = EachLabelOf P d.ty

-- of each name of a procedure
pub record ProcNames (P : ℕ → Type 0) (p : Proc) : Type 0 where
  pub name : P p.name
  pub params : All (ParamNames P) p.params
  pub focus : EachLabelOf P p.focus
  pub result : EachLabelOf P p.result
  pub body : CoreNames P p.body

-- of each name of a normal form
pub record NormalNames (P : ℕ → Type 0) (n : Normal) : Type 0 where
  pub names : All (λ d. P d.name) n.defs
  pub bodies : EachLabelOfBodies P n.defs
  pub procs : All (ProcNames P) n.procs
  pub input : EachLabelOf P n.input
  pub declared : DeclaredNames P n.declared
  pub main : CoreNames P n.main

-- each name of a script's normal form is one of the script's: what holds of each name of the script
-- holds of each of the normal form
abbrev pub NormalFormKeepsNames : Type 0
NormalFormKeepsNames =
    (s : Script) (n : Normal) → IsNormalForm s n → NormalNames (Contains (names_in_script s)) n
