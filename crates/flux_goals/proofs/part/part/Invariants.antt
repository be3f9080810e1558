use Rattle.std.proofs.Common.{length}
use Rattle.flux_goals.specs.Table.{Asks, IsTable, work}
use Rattle.flux_goals.proofs.PartLaws.{Covers}
use Rattle.flux_goals.proofs.part.part.Given as goal

abbrev pub invariant-loop-parting : goal.invariant-loop-parting
invariant-loop-parting l = record {
  table : IsTable l.auto'.states l.other l.table.goals.entries l.table.shown.items;
  asks : Asks l.fn.table l.table;
  covers : Covers (length l.auto'.states) l.auto'.states l.table.goals.entries l.element l.partings.items;
}

abbrev pub decreases-loop-parting : goal.decreases-loop-parting
decreases-loop-parting l = work l.element.ways.items l.partings.items
