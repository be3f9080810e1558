use Rattle.std.proofs.Common.{◌≡◌, drop}
use Rattle.flux_forest.specs.View.{forest_of}
use Rattle.flux_calculus.specs.Query.{value}
use Rattle.flux_query.specs.Read.{query_of, queries_of}
use Rattle.flux_query.specs.Added.{added, values_under}
use Rattle.flux_query.proofs.evaluate.+eval.Given as goal

abbrev pub invariant-push_values-loop-query : goal.invariant-push_values-loop-query
invariant-push_values-loop-query l = record {
  same : l.env ≡ l.fn.env;
  so_far : added l.values (value l.fn.env (queries_of l.fn.at (drop l.query-index l.queries))) ≡ added l.fn.values (value l.fn.env (queries_of l.fn.at l.queries));
}

abbrev pub invariant-push_each-loop-tree : goal.invariant-push_each-loop-tree
invariant-push_each-loop-tree l = record {
  same : l.env ≡ l.fn.env;
  so_far : added l.values (values_under l.fn.env l.fn.x (query_of l.fn.body) l.tree-iterator) ≡ added l.fn.values (values_under l.fn.env l.fn.x (query_of l.fn.body) (forest_of l.fn.over));
}
