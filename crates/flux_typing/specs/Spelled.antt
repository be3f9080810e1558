-- Queries and statements as scripts have them.
use Rattle.std.specs.Prelude.{◌≡◌, List, [], ◌∷◌, length, IsSomeAnd}
use Rattle.flux_calculus.specs.Query.{Query, nothing, both, element, literal, variable, binding, choice, alike, less, child, filter, each}
use Rattle.flux_calculus.specs.Core.{Core, skip, snapshot, insert, delete, rename, test, children, left, right, iter, call, Procs, proc_of}
use Rattle.flux_calculus.specs.Core as core

-- what may stand behind a query, in a list of them: nothing, or another and those behind it
abbrev pub IsRest : Query → Type 0
IsRest (nothing at) = Unit {0}
IsRest (both at q r) = Unit {0}
IsRest (element at n q) = ⊥
IsRest (literal at x) = ⊥
IsRest (variable at x) = ⊥
IsRest (binding at x q r) = ⊥
IsRest (choice at c q r) = ⊥
IsRest (alike at q r) = ⊥
IsRest (less at q r) = ⊥
IsRest (child at x) = ⊥
IsRest (filter at q t) = ⊥
IsRest (each at x q r) = ⊥

-- queries stand in lists
abbrev pub IsListed : Query → Type 0
IsListed (nothing at) = Unit {0}
IsListed (both at q r) = IsListed q × IsListed r × IsRest r
IsListed (element at n q) = IsListed q
IsListed (literal at x) = Unit {0}
IsListed (variable at x) = Unit {0}
IsListed (binding at x q r) = IsListed q × IsListed r
IsListed (choice at c q r) = IsListed c × IsListed q × IsListed r
IsListed (alike at q r) = IsListed q × IsListed r
IsListed (less at q r) = IsListed q × IsListed r
IsListed (child at x) = Unit {0}
IsListed (filter at q t) = IsListed q
IsListed (each at x q r) = IsListed q × IsListed r

abbrev pub AreListed : List Query → Type 0
AreListed [] = Unit {0}
AreListed (q ∷ qs) = IsListed q × AreListed qs

-- each call names a procedure, and has an argument for each of its parameters; queries stand in
-- lists
abbrev pub IsSpelled : Procs → Core → Type 0
IsSpelled procs (skip at) = Unit {0}
IsSpelled procs (core.nothing at) = Unit {0}
IsSpelled procs (core.both at s r) = IsSpelled procs s × IsSpelled procs r
IsSpelled procs (core.choice at c s r) = IsListed c × IsSpelled procs s × IsSpelled procs r
IsSpelled procs (core.binding at x q s) = IsListed q × IsSpelled procs s
IsSpelled procs (snapshot at x s) = IsSpelled procs s
IsSpelled procs (insert at q) = IsListed q
IsSpelled procs (delete at) = Unit {0}
IsSpelled procs (rename at n) = Unit {0}
IsSpelled procs (test at t s) = IsSpelled procs s
IsSpelled procs (children at s) = IsSpelled procs s
IsSpelled procs (left at s) = IsSpelled procs s
IsSpelled procs (right at s) = IsSpelled procs s
IsSpelled procs (iter at s) = IsSpelled procs s
IsSpelled procs (call at p args) =
    IsSomeAnd (proc_of procs p) (λ q. length args ≡ length q.params) × AreListed args
