use Rattle.std.proofs.Common.{ℕ, ◌<◌, ◌≤◌, ◌^◌, ◌-◌, length}
use Rattle.flux_subtype.specs.Search.{IsDone, LabelsGrow, IsAgainst}
use Rattle.flux_subtype.proofs.search.saturate.Given as goal

abbrev pub invariant-loop-done : goal.invariant-loop-done
invariant-loop-done l = record {
  so_far : IsDone l.part l.found.kept.entries l.found.trees.entries l.done;
  behind : l.done ≤ l.seen;
  there : l.seen ≤ length l.found.kept.entries;
  none : (i : ℕ) → i < l.seen → IsAgainst l.found.kept.entries l.left l.right i → ⊥;
  labels : LabelsGrow l.part l.other l.fn.found.kept.entries l.fn.found.trees.entries l.found.kept.entries l.found.trees.entries;
}

abbrev pub decreases-loop-done : goal.decreases-loop-done
decreases-loop-done l = 2 ^ 64 - l.done
