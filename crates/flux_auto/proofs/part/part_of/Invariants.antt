use Rattle.std.proofs.Common.{map, ◌^◌, ◌-◌, length}
use Rattle.flux_auto.specs.Built.{state_of}
use Rattle.flux_auto.specs.Part.{AreNumbered, AreCopied}
use Rattle.flux_auto.proofs.PartLaws.{MoreOf}
use Rattle.flux_auto.proofs.part.part_of.Given as goal

abbrev pub invariant-loop-alloc : goal.invariant-loop-alloc
invariant-loop-alloc l = record {
  right : AreNumbered l.numbers;
  firsts : MoreOf l.states l.numbers.olds.items;
  copied : AreCopied (map state_of l.rows) l.numbers.olds.items (map state_of l.part.items);
}

abbrev pub decreases-loop-alloc : goal.decreases-loop-alloc
decreases-loop-alloc l = 2 ^ 64 - length l.part.items
