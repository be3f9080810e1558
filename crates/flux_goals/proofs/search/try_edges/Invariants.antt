use Rattle.flux_goals.specs.Table.{Asks, IsTable}
use Rattle.flux_goals.proofs.SearchLaws.{AllStand}
use Rattle.flux_goals.proofs.search.try_edges.Given as goal

abbrev pub invariant-loop-index : goal.invariant-loop-index
invariant-loop-index l = record {
  table : IsTable l.auto'.states l.other l.table.goals.entries l.table.shown.items;
  asks : Asks l.fn.table l.table;
  stand : AllStand l.auto'.states l.other l.table.goals.entries l.goal.right.items l.edges l.from l.index;
}
