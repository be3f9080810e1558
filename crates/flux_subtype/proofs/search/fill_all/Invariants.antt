use Rattle.std.proofs.Common.{◌≡◌}
use Rattle.flux_subtype.specs.Search.{FillsAll}
use Rattle.flux_subtype.proofs.search.fill_all.Given as goal

abbrev pub invariant-loop-index : goal.invariant-loop-index
invariant-loop-index l = (l.found.trees.entries ≡ l.fn.found.trees.entries) × FillsAll l.part l.fn.found.kept.entries l.found.kept.entries l.fn.found.trees.entries l.done l.index
