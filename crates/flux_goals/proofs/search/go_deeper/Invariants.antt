use Rattle.std.proofs.Common.{◌+◌, ◌*◌, ◌-◌, ◌^◌, length}
use Rattle.flux_goals.specs.Table.{Searches}
use Rattle.flux_goals.proofs.search.go_deeper.Given as goal

abbrev pub invariant-loop-next : goal.invariant-loop-next
invariant-loop-next l = Searches l.auto'.states l.other l.fn.table l.table

abbrev pub decreases-loop-next : goal.decreases-loop-next
decreases-loop-next l = 2 * (2 ^ 64 - length l.table.goals.entries) + length l.stack.items
