use Rattle.flux_goals.specs.Goals.{ByAtom}
use Rattle.flux_goals.specs.Table.{AddsBy}
use Rattle.flux_goals.proofs.after.add_rests.Given as goal

abbrev pub invariant-loop-index : goal.invariant-loop-index
invariant-loop-index l = AddsBy (ByAtom l.kind) l.edges l.index l.fn.rests.items l.rests.items
