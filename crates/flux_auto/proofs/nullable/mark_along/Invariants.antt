use Rattle.flux_auto.specs.Marking.{MarksSound}
use Rattle.flux_auto.proofs.nullable.mark_along.Given as goal

abbrev pub invariant-loop-index : goal.invariant-loop-index
invariant-loop-index l = MarksSound l.defs l.fn.nullable → MarksSound l.defs l.nullable
