use Rattle.std.proofs.Common.{◌≡◌, ◌+◌, ◌≤◌, ◌++◌, length, reverse}
use Rattle.std.specs.Vec.{vec_capacity}
use Rattle.flux_plain.proofs.runs.move_nodes.Given as goal

abbrev pub invariant-loop : goal.invariant-loop
invariant-loop l = record {
  order : l.from.items ++ reverse l.to.items ≡ l.initial.from.items ++ reverse l.initial.to.items;
  left : length l.from.items + l.counter ≡ length l.initial.from.items;
  moved : length l.to.items ≡ length l.initial.to.items + l.counter;
  from_room : vec_capacity l.initial.from ≤ vec_capacity l.from;
  to_room : vec_capacity l.initial.to ≤ vec_capacity l.to;
}
