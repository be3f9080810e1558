use Rattle.std.proofs.Common.{◌≡◌, ◌-◌, ◌^◌, true, false}
use Rattle.flux_goals.specs.Table.{Searches, IsMore, StandFrom}
use Rattle.flux_goals.proofs.search.round.Given as goal

abbrev pub invariant-loop-place : goal.invariant-loop-place
invariant-loop-place l = record {
  searches : Searches l.auto'.states l.other l.fn.table l.table;
  more : l.more ≡ true → IsMore l.fn.table l.table;
  stand : l.more ≡ false → StandFrom l.auto'.states l.other l.table.goals.entries l.table.settled l.place;
}

abbrev pub decreases-loop-place : goal.decreases-loop-place
decreases-loop-place l = 2 ^ 64 - l.place
