use Rattle.std.proofs.Common.{◌≡◌}
use Rattle.flux_calculus.specs.Query.{found}
use Rattle.flux_query.specs.Environments.{environment_of, AreWhole}
use Rattle.flux_query.proofs.env.last.Given as goal

abbrev pub invariant-loop-binding : goal.invariant-loop-binding
invariant-loop-binding l =
    AreWhole l.binding-iterator.iter.rest.now × (found (environment_of l.bindings) l.var ≡ found (environment_of l.binding-iterator.iter.rest.now) l.var)
