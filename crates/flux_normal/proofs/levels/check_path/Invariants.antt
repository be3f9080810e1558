use Rattle.std.proofs.Common.{◌≡◌, ◌+◌, length, drop}
use Rattle.flux_normal.proofs.PathLaws.{PathSoFar}
use Rattle.flux_normal.proofs.levels.check_path.Given as goal

abbrev pub invariant-loop-step : goal.invariant-loop-step
invariant-loop-step l = record {
  counted : l.behind + l.step-index ≡ length l.steps;
  so_far : PathSoFar l.steps l.fn.levels (drop l.step-index l.steps) l.levels;
}
