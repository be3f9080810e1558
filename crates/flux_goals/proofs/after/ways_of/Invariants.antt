use Rattle.flux_goals.specs.Goals.{ByElement}
use Rattle.flux_goals.proofs.AfterLaws.{AreByBelow}
use Rattle.flux_goals.proofs.after.ways_of.Given as goal

abbrev pub invariant-loop-index : goal.invariant-loop-index
invariant-loop-index l = AreByBelow (ByElement l.label) l.auto'.states l.right l.index l.ways.items
