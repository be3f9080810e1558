-- What a script keeps has one proof at most.
use Rattle.std.specs.Prelude.{◌≡◌, ℕ, length}
use Rattle.std.specs.Option.{IsSomeAnd-prop}
use Rattle.std.specs.Coded.{coded_ℕ, Coded-set, ×_prop, Unit-prop, le_prop}
use Rattle.flux_schema.specs.Ty.{Ty, empty, atom, element, any_element, seq, alt, star, named, NamesBelow}
use Rattle.flux_calculus.specs.Core.{Core, skip, nothing, both, choice, binding, snapshot, insert, delete, rename, test, children, left, right, iter, call, Procs, proc_of}
use Rattle.flux_core.specs.WellFormed.{CallsFit}

pub NamesBelow-prop : (n : ℕ) (t : Ty) → IsProp (NamesBelow n t)
NamesBelow-prop n empty = Unit-prop
NamesBelow-prop n (atom k) = Unit-prop
NamesBelow-prop n (element m t) = NamesBelow-prop n t
NamesBelow-prop n (any_element t) = NamesBelow-prop n t
NamesBelow-prop n (seq t u) = ×_prop (NamesBelow-prop n t) (NamesBelow-prop n u)
NamesBelow-prop n (alt t u) = ×_prop (NamesBelow-prop n t) (NamesBelow-prop n u)
NamesBelow-prop n (star t) = NamesBelow-prop n t
NamesBelow-prop n (named x) = le_prop

pub CallsFit-prop : (procs : Procs) (s : Core) → IsProp (CallsFit procs s)
CallsFit-prop procs (skip at) = Unit-prop
CallsFit-prop procs (nothing at) = Unit-prop
CallsFit-prop procs (both at s r) = ×_prop (CallsFit-prop procs s) (CallsFit-prop procs r)
CallsFit-prop procs (choice at c s r) = ×_prop (CallsFit-prop procs s) (CallsFit-prop procs r)
CallsFit-prop procs (binding at x q s) = CallsFit-prop procs s
CallsFit-prop procs (snapshot at x s) = CallsFit-prop procs s
CallsFit-prop procs (insert at q) = Unit-prop
CallsFit-prop procs (delete at) = Unit-prop
CallsFit-prop procs (rename at n) = Unit-prop
CallsFit-prop procs (test at t s) = CallsFit-prop procs s
CallsFit-prop procs (children at s) = CallsFit-prop procs s
CallsFit-prop procs (left at s) = CallsFit-prop procs s
CallsFit-prop procs (right at s) = CallsFit-prop procs s
CallsFit-prop procs (iter at s) = CallsFit-prop procs s
CallsFit-prop procs (call at p args) =
    IsSomeAnd-prop (proc_of procs p) (λ q. length args ≡ length q.params)
    (λ q. Coded-set coded_ℕ (length args) (length q.params))
