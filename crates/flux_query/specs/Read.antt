-- The query of the calculus that a Rust query spells.
use Rattle.std.specs.Prelude.{List, map}
use Rattle.flux_calculus.specs.declared.ask.Span.{Span}
use Rattle.flux_calculus.specs.Query as calculus
use Rattle.flux_calculus.specs.Query.{listed, element, literal, variable, binding, choice, alike, less, child, filter, each}
use Rattle.flux_query.specs.declared.query.Query.{Query}
use Rattle.flux_query.specs.declared.query.Query.TheOpen.{Query-F}
use Rattle.flux_query.specs.declared.query.Query.TheFolds.{fold-Query}

-- each variant as the form of the same meaning, with its span
abbrev pub query_step : Query-F calculus.Query → calculus.Query
query_step (Query-F.Concat qs span) = listed span qs
query_step (Query-F.Elem n q span) = element span n q
query_step (Query-F.Lit x span) = literal span x
query_step (Query-F.Var x span) = variable span x
query_step (Query-F.Let x q r span) = binding span x q r
query_step (Query-F.If c q r span) = choice span c q r
query_step (Query-F.Same q r span) = alike span q r
query_step (Query-F.Less q r span) = less span q r
query_step (Query-F.Child x span) = child span x
query_step (Query-F.Filter q t span) = filter span q t
query_step (Query-F.For x q r span) = each span x q r

abbrev pub query_of : Query → calculus.Query
query_of = fold-Query calculus.Query query_step

abbrev pub queries_of : Span → List Query → calculus.Query
queries_of at qs = listed at (map query_of qs)
