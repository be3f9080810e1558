use Rattle.flux_subtype.proofs.Turning.{AddsBelow}
use Rattle.flux_subtype.proofs.trees.add_elements.Given as goal

abbrev pub invariant-loop-index : goal.invariant-loop-index
invariant-loop-index l = AddsBelow l.arcs l.other l.set l.content l.fn.trees.entries l.trees.entries l.index
