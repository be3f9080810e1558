use Rattle.std.proofs.Common.{drop}
use Rattle.flux_grammar.specs.Nesting.{query_level}
use Rattle.flux_grammar.specs.NormalQueries.{query_form}
use Rattle.flux_normal.specs.Levels.{told}
use Rattle.flux_normal.proofs.LevelLaws.{SoFar}
use Rattle.flux_normal.proofs.levels.+queries.Given as goal

abbrev pub invariant-check_queries-loop-query : goal.invariant-check_queries-loop-query
invariant-check_queries-loop-query l = SoFar query_level query_form l.levels (drop l.query-index l.queries) (told l.found) l.queries
