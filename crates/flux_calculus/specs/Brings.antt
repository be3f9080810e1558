-- What holds of each label and each atom that a query, a statement or a procedure brings in.
use Rattle.std.specs.Prelude.{◌≡◌, ℕ, List, [], ◌∷◌, Some}
use Rattle.flux_atom.specs.declared.atom.Atom.{Atom}
use Rattle.flux_trees.specs.Hedge.{Plain}
use Rattle.flux_trees.specs.Each.{EachLabel, EachAtom}
use Rattle.flux_calculus.specs.declared.ask.Var.{Var}
use Rattle.flux_calculus.specs.Query.{Query, nothing, both, literal, variable, binding, choice, alike, less, child, filter, each, Environment, found}
use Rattle.flux_calculus.specs.Query as query
use Rattle.flux_calculus.specs.Core.{Core, skip, snapshot, insert, delete, rename, test, children, left, right, iter, call, Proc, Procs, proc_of}
use Rattle.flux_calculus.specs.Core as core

module _ (P : ℕ → Type 0) (Q : Atom → Type 0) where
  -- each label and each atom of the forest
  abbrev pub Holds : Plain → Type 0
  Holds v = EachLabel P v × EachAtom Q v

  -- those of the value of each variable
  abbrev pub AllHold : Environment → Type 0
  AllHold γ = (x : Var) (v : Plain) → found γ x ≡ Some v → Holds v

  abbrev pub QueryBrings : Query → Type 0
  QueryBrings (nothing at) = Unit {0}
  QueryBrings (both at q r) = QueryBrings q × QueryBrings r
  QueryBrings (query.element at n q) = P n × QueryBrings q
  QueryBrings (literal at x) = Q x
  QueryBrings (variable at x) = Unit {0}
  QueryBrings (binding at x q r) = QueryBrings q × QueryBrings r
  QueryBrings (choice at c q r) = QueryBrings c × QueryBrings q × QueryBrings r
  QueryBrings (alike at q r) = QueryBrings q × QueryBrings r
  QueryBrings (less at q r) = QueryBrings q × QueryBrings r
  QueryBrings (child at x) = Unit {0}
  QueryBrings (filter at q t) = QueryBrings q
  QueryBrings (each at x q r) = QueryBrings q × QueryBrings r

  abbrev pub QueriesBring : List Query → Type 0
  QueriesBring [] = Unit {0}
  QueriesBring (q ∷ qs) = QueryBrings q × QueriesBring qs

  abbrev pub CoreBrings : Core → Type 0
  CoreBrings (skip at) = Unit {0}
  CoreBrings (core.nothing at) = Unit {0}
  CoreBrings (core.both at s r) = CoreBrings s × CoreBrings r
  CoreBrings (core.choice at c s r) = QueryBrings c × CoreBrings s × CoreBrings r
  CoreBrings (core.binding at x q s) = QueryBrings q × CoreBrings s
  CoreBrings (snapshot at x s) = CoreBrings s
  CoreBrings (insert at q) = QueryBrings q
  CoreBrings (delete at) = Unit {0}
  CoreBrings (rename at n) = P n
  CoreBrings (test at t s) = CoreBrings s
  CoreBrings (children at s) = CoreBrings s
  CoreBrings (left at s) = CoreBrings s
  CoreBrings (right at s) = CoreBrings s
  CoreBrings (iter at s) = CoreBrings s
  CoreBrings (call at p args) = QueriesBring args

  -- the bodies of the procedures
  abbrev pub ProcsBring : Procs → Type 0
  ProcsBring procs = (p : ℕ) (q : Proc) → proc_of procs p ≡ Some q → CoreBrings q.body
