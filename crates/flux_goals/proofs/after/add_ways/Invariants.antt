use Rattle.flux_goals.specs.Goals.{ByElement}
use Rattle.flux_goals.specs.Table.{AddsBy}
use Rattle.flux_goals.proofs.after.add_ways.Given as goal

abbrev pub invariant-loop-index : goal.invariant-loop-index
invariant-loop-index l = AddsBy (ByElement l.label) l.edges l.index l.fn.ways.items l.ways.items
