use Rattle.flux_normal.proofs.Defined.{AreDefined}
use Rattle.flux_normal.proofs.types.define_all.Given as goal

abbrev pub invariant-loop-index : goal.invariant-loop-index
invariant-loop-index l = AreDefined l.types l.fn.known l.known l.index
