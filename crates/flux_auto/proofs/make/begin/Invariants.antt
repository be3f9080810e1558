use Rattle.flux_auto.proofs.Making.{Begins}
use Rattle.flux_auto.proofs.make.begin.Given as goal

abbrev pub invariant-loop-index : goal.invariant-loop-index
invariant-loop-index l = Begins l.defs l.index l.initial.table l.table
