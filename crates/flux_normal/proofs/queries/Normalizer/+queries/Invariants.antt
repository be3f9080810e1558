use Rattle.std.proofs.Common.{◌≡◌, drop, map}
use Rattle.flux_grammar.specs.NormalQueries.{plain, of_all, steps_on, query_form}
use Rattle.flux_query.specs.Read.{query_of}
use Rattle.flux_normal.proofs.Counted.{behind}
use Rattle.flux_normal.proofs.queries.Normalizer.+queries.Given as goal

abbrev pub invariant-queries-loop-expr : goal.invariant-queries-loop-expr
invariant-queries-loop-expr l = behind (map query_of l.queries) (of_all (map query_form (drop l.expr-index l.exprs)) l.self.made) ≡ of_all (map query_form l.exprs) l.fn.self.made

abbrev pub invariant-stepped-loop-step : goal.invariant-stepped-loop-step
invariant-stepped-loop-step l = steps_on (plain (query_of l.query)) (drop l.step-index l.steps) l.self.made ≡ steps_on (query_form l.fn.inner) l.steps l.fn.self.made
