-- Statements that are tried by hand.
use Rattle.std.specs.Prelude.{◌≡◌, ℕ, [], ◌∷◌, IsSome}
use Rattle.flux_trees.specs.Hedge.{Plain}
use Rattle.flux_calculus.specs.declared.ask.Test.TheVariants.{Label}
use Rattle.flux_calculus.specs.declared.ask.Var.TheVariants.{Made}
use Rattle.flux_calculus.specs.declared.ask.Span.{Span}
use Rattle.flux_calculus.specs.Query.{Query, Environment, value, variable}
use Rattle.flux_calculus.specs.Core.{Core, Proc, Procs, nothing, both, insert, rename, test, children, right, iter, call}
use Rattle.flux_run.specs.Running.{CanRun}

-- the span of each of their parts, but of the calls in procedures
abbrev pub start : Span
start = record { from = 0; to = 0 }

abbrev pub inner : Span
inner = record { from = 7; to = 14 }

-- whatever the forest, and however many calls are to go, the statement makes a forest of it or
-- meets a call too many
abbrev pub AlwaysRuns : Procs → Core → Type 0
AlwaysRuns procs s = (d : ℕ) (v : Plain) → CanRun procs d [] v s

-- whatever is bound, the query has a value
abbrev pub HasValue : Query → Type 0
HasValue q = (γ : Environment) → IsSome (value γ q)

-- there is one procedure, which has no parameters and does this
abbrev pub DoesAlone : Procs → Core → Type 0
DoesAlone procs s = (q : Proc) × (procs ≡ q ∷ []) × (q.params ≡ []) × (q.body ≡ s)

-- two statements, one behind the other
abbrev pub two : Core → Core → Core
two s r = both start s (both start r (nothing start))

-- a statement on each tree that is an element with the label
abbrev pub on_each : ℕ → Core → Core
on_each n s = iter start (test start (Label n) s)

-- the value of a query behind the focus
abbrev pub behind : Query → Core
behind q = right start (insert start q)

-- the one variable
abbrev pub seen : Query
seen = variable start (Made 0)

-- the procedure on what the elements with the label contain
abbrev pub call_inside : ℕ → Core
call_inside n = on_each n (children start (call inner 0 []))

-- so, and then the elements get another label
abbrev pub strip : ℕ → ℕ → Core
strip n m = two (call_inside n) (on_each n (rename start m))
