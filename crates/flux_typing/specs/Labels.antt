-- Which labels stand in statements.
use Rattle.std.specs.Prelude.{◌≡◌, ℕ, List, [], ◌∷◌, Some, All}
use Rattle.flux_schema.specs.Ty.{Ty}
use Rattle.flux_schema.specs.Labels.{Lacks}
use Rattle.flux_calculus.specs.declared.ask.Var.{Var}
use Rattle.flux_calculus.specs.Labels.{EachLabelOfTest, EachLabelOfQuery}
use Rattle.flux_calculus.specs.Query.{Query, found}
use Rattle.flux_calculus.specs.Typing.{Context}
use Rattle.flux_calculus.specs.Core.{Core, skip, nothing, both, choice, binding, snapshot, insert, delete, rename, test, children, left, right, iter, call, Proc, Procs, proc_of}

module _ (P : ℕ → Type 0) where
  abbrev pub EachLabelOfQueries : List Query → Type 0
  EachLabelOfQueries [] = Unit {0}
  EachLabelOfQueries (q ∷ qs) = EachLabelOfQuery P q × EachLabelOfQueries qs

  -- P holds of each label that stands in the statement: in a renaming, in a test, in a query
  abbrev pub EachLabelOfCore : Core → Type 0
  EachLabelOfCore (skip at) = Unit {0}
  EachLabelOfCore (nothing at) = Unit {0}
  EachLabelOfCore (both at s r) = EachLabelOfCore s × EachLabelOfCore r
  EachLabelOfCore (choice at c s r) =
      EachLabelOfQuery P c × EachLabelOfCore s × EachLabelOfCore r
  EachLabelOfCore (binding at x q s) = EachLabelOfQuery P q × EachLabelOfCore s
  EachLabelOfCore (snapshot at x s) = EachLabelOfCore s
  EachLabelOfCore (insert at q) = EachLabelOfQuery P q
  EachLabelOfCore (delete at) = Unit {0}
  EachLabelOfCore (rename at n) = P n
  EachLabelOfCore (test at t s) = EachLabelOfTest P t × EachLabelOfCore s
  EachLabelOfCore (children at s) = EachLabelOfCore s
  EachLabelOfCore (left at s) = EachLabelOfCore s
  EachLabelOfCore (right at s) = EachLabelOfCore s
  EachLabelOfCore (iter at s) = EachLabelOfCore s
  EachLabelOfCore (call at p args) = EachLabelOfQueries args

-- the label doesn't stand in the statement
abbrev pub CoreLacks : ℕ → Core → Type 0
CoreLacks n s = EachLabelOfCore (λ m. ¬ (m ≡ n)) s

-- nor in the type of a variable
abbrev pub ContextLacks : ℕ → Context → Type 0
ContextLacks n Γ = (x : Var) (t : Ty) → found Γ x ≡ Some t → Lacks n t

-- nor in the types that a procedure declares
pub record ProcLacks (n : ℕ) (q : Proc) : Type 0 where
  pub params : All (λ p. Lacks n p.1) q.params
  pub focus : Lacks n q.focus
  pub result : Lacks n q.result

abbrev pub ProcsLack : ℕ → Procs → Type 0
ProcsLack n procs = (p : ℕ) (q : Proc) → proc_of procs p ≡ Some q → ProcLacks n q
