use Rattle.std.proofs.Common.{◌≡◌}
use Rattle.flux_calculus.specs.Query.{found}
use Rattle.flux_core.specs.Contexts.{context_of}
use Rattle.flux_core.proofs.gamma.last.Given as goal

abbrev pub invariant-loop-binding : goal.invariant-loop-binding
invariant-loop-binding l = found (context_of l.bindings) l.var ≡ found (context_of l.binding-iterator.iter.rest.now) l.var
