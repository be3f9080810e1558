use Rattle.std.proofs.Common.{◌≡◌, length}
use Rattle.flux_auto.proofs.tests.make_scene.Given as goal

abbrev pub invariant-loop-index : goal.invariant-loop-index
invariant-loop-index g l = length l.draft ≡ 3
