use Rattle.std.proofs.Common.{◌≡◌, length}
use Rattle.flux_schema.specs.Marks.{unmarked}
use Rattle.flux_auto.specs.Marking.{MarksSound}
use Rattle.flux_auto.proofs.nullable.nullable_names.Given as goal

abbrev pub invariant-loop : goal.invariant-loop
invariant-loop l = (length l.nullable.items ≡ length l.defs) × MarksSound l.defs l.nullable.items

abbrev pub decreases-loop : goal.decreases-loop
decreases-loop l = unmarked l.nullable.items
