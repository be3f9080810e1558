use Rattle.std.proofs.Common.{drop}
use Rattle.flux_calculus.specs.declared.ask.Span.{Span}
use Rattle.flux_query.specs.Read.{queries_of}
use Rattle.flux_querytype.specs.Answers.{QueryLacks}
use Rattle.flux_querytype.proofs.tests.+lacking.Given as goal

abbrev pub invariant-queries_lack-loop-query : goal.invariant-queries_lack-loop-query
invariant-queries_lack-loop-query l = (at : Span) → QueryLacks l.other (queries_of at (drop l.query-index l.queries)) → QueryLacks l.other (queries_of at l.queries)
