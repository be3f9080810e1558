use Rattle.std.proofs.Common.{take}
use Rattle.flux_auto.specs.Part.{AreNumbered, AreRenamed}
use Rattle.flux_auto.proofs.PartLaws.{MoreOf}
use Rattle.flux_auto.proofs.part.renamed_all.Given as goal

abbrev pub invariant-loop-edge : goal.invariant-loop-edge
invariant-loop-edge l = record {
  right : AreNumbered l.numbers;
  more : MoreOf l.fn.numbers.olds.items l.numbers.olds.items;
  are : AreRenamed l.numbers.olds.items (take l.edge-index l.edges) l.all.items;
}
