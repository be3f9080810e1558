use Rattle.flux_goals.specs.Goals.{ByAtom}
use Rattle.flux_goals.proofs.AfterLaws.{AreByBelow}
use Rattle.flux_goals.proofs.after.rests_of.Given as goal

abbrev pub invariant-loop-index : goal.invariant-loop-index
invariant-loop-index l = AreByBelow (ByAtom l.kind) l.auto'.states l.right l.index l.rests.items
