use Rattle.std.proofs.Common.{◌≡◌, ◌≤◌, Some, map, length, drop}
use Rattle.flux_calculus.specs.Derives.{bound_to}
use Rattle.flux_query.specs.Read.{query_of}
use Rattle.flux_core.specs.Statements.{param_of}
use Rattle.flux_run.proofs.arguments.bound.Given as goal

-- the parameters behind these are bound to the values of their arguments
abbrev pub invariant-arguments : goal.invariant-arguments
invariant-arguments l = record {
  within : l.left ≤ length l.args;
  same : l.env ≡ l.fn.env;
  bound : bound_to l.fn.env (drop l.left (map param_of l.params)) (drop l.left (map query_of l.args)) ≡ Some l.bound;
}

abbrev pub decreases-arguments : goal.decreases-arguments
decreases-arguments l = l.left
