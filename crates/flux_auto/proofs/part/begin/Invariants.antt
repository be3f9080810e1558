use Rattle.flux_auto.proofs.PartLaws.{AreOf}
use Rattle.flux_auto.proofs.part.begin.Given as goal

abbrev pub invariant-loop-index : goal.invariant-loop-index
invariant-loop-index l = AreOf l.states l.news.entries
