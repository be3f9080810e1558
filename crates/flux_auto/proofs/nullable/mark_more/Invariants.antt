use Rattle.flux_auto.proofs.Marking.{Marking}
use Rattle.flux_auto.proofs.nullable.mark_more.Given as goal

abbrev pub invariant-loop-index : goal.invariant-loop-index
invariant-loop-index l = Marking l.defs l.fn.nullable l.nullable l.index l.more
