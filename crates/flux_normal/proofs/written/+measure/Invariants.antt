use Rattle.std.proofs.Common.{◌≤◌, length}
use Rattle.flux_normal.proofs.Extents.{IsSoFar}
use Rattle.flux_normal.proofs.written.+measure.Given as goal

abbrev pub invariant-measure_list-loop-index : goal.invariant-measure_list-loop-index
invariant-measure_list-loop-index l = record {
  within : l.index ≤ length l.parts;
  so_far : IsSoFar l.parts l.index l.whole;
}

abbrev pub decreases-measure_list-loop-index : goal.decreases-measure_list-loop-index
decreases-measure_list-loop-index l = l.index
