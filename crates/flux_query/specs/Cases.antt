-- Queries that are tried by hand.
use Rattle.std.specs.Prelude.{[], ◌∷◌, IsSome}
use Rattle.flux_trees.specs.Hedge.{Plain}
use Rattle.flux_calculus.specs.declared.ask.Var.TheVariants.{Made}
use Rattle.flux_calculus.specs.declared.ask.Span.{Span}
use Rattle.flux_calculus.specs.Query.{Query, value}

-- the span of each of their parts
abbrev pub start : Span
start = record { from = 0; to = 0 }

-- the query has a value whatever forest variable 0 is bound to
abbrev pub HasValue : Query → Type 0
HasValue q = (v : Plain) → IsSome (value ((Made 0, v) ∷ []) q)
