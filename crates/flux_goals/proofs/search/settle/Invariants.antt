use Rattle.std.proofs.Common.{◌+◌, ◌-◌, ◌^◌, length}
use Rattle.flux_goals.specs.Table.{IsRight, Grows}
use Rattle.flux_goals.proofs.search.settle.Given as goal

abbrev pub invariant-loop-table : goal.invariant-loop-table
invariant-loop-table l = record {
  right : IsRight l.auto'.states l.other l.table;
  grows : Grows l.fn.table.goals.entries l.table.goals.entries;
}

abbrev pub decreases-loop-table : goal.decreases-loop-table
decreases-loop-table l = (2 ^ 64 - length l.table.goals.entries) + (2 ^ 64 - length l.table.shown.items) + (l.asked + 1 - l.table.settled)
