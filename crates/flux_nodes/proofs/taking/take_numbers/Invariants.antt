use Rattle.std.proofs.Common.{◌+◌, ◌-◌, ◌≤◌, length}
use Rattle.std.specs.Vec.{vec_capacity}
use Rattle.flux_nodes.specs.Kept.{HasSpare, AreTaken}
use Rattle.flux_nodes.proofs.taking.take_numbers.Given as goal

abbrev pub invariant-taken : goal.invariant-taken
invariant-taken l = record {
  taken : (h : HasSpare l.fn.cells.items l.fn.free) → AreTaken l.fn.cells.items l.cells.items h.spare l.free l.numbers.items l._taken;
  room : (h : HasSpare l.fn.cells.items l.fn.free) → length l.fn.cells.items + (l.count - length h.spare) ≤ vec_capacity l.cells;
  numbers_room : l.count ≤ vec_capacity l.numbers;
}
