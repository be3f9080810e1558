-- What a script in the core language keeps.
use Rattle.std.specs.Prelude.{◌≡◌, ℕ, Some, length, All, IfSome, IsSomeAnd}
use Rattle.flux_schema.specs.Definitions.{Definitions}
use Rattle.flux_types.specs.Kept.{AreKept}
use Rattle.flux_calculus.specs.Core.{Core, skip, nothing, both, choice, binding, snapshot, insert, delete, rename, test, children, left, right, iter, call, Proc, Procs, proc_of, Normal}
use Rattle.flux_core.specs.Faults.{IsUsable}

-- each call in the statement names a procedure, and has an argument for each of its parameters
abbrev pub CallsFit : Procs → Core → Type 0
CallsFit procs (skip at) = Unit {0}
CallsFit procs (nothing at) = Unit {0}
CallsFit procs (both at s r) = CallsFit procs s × CallsFit procs r
CallsFit procs (choice at c s r) = CallsFit procs s × CallsFit procs r
CallsFit procs (binding at x q s) = CallsFit procs s
CallsFit procs (snapshot at x s) = CallsFit procs s
CallsFit procs (insert at q) = Unit {0}
CallsFit procs (delete at) = Unit {0}
CallsFit procs (rename at n) = Unit {0}
CallsFit procs (test at t s) = CallsFit procs s
CallsFit procs (children at s) = CallsFit procs s
CallsFit procs (left at s) = CallsFit procs s
CallsFit procs (right at s) = CallsFit procs s
CallsFit procs (iter at s) = CallsFit procs s
CallsFit procs (call at p args) = IsSomeAnd (proc_of procs p) (λ q. length args ≡ length q.params)

-- a procedure: its types can be used, and the calls in its body fit
pub record IsWellFormedProc (defs : Definitions) (procs : Procs) (p : Proc) : Type 0 where
  pub params : All (λ x. IsUsable defs x.1) p.params
  pub focus : IsUsable defs p.focus
  pub result : IsUsable defs p.result
  pub calls : CallsFit procs p.body

-- a script: its definitions are good, its types can be used under them, and its calls fit
pub record IsWellFormed (n : Normal) : Type 0 where
  pub defs : AreKept n.defs
  pub procs : (p : ℕ) (q : Proc) → proc_of n.procs p ≡ Some q → IsWellFormedProc n.defs n.procs q
  pub input : IsUsable n.defs n.input
  pub declared : IfSome n.declared (λ d. IsUsable n.defs d.ty)
  pub calls : CallsFit n.procs n.main
