use Rattle.std.proofs.Common.{◌≡◌}
use Rattle.flux_trees.specs.Draft.{depth}
use Rattle.flux_forest.proofs.forest.tests.truths.Given as goal

abbrev pub invariant-loop-at : goal.invariant-loop-at
invariant-loop-at l = depth l.forest ≡ 0
