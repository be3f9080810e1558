use Rattle.std.proofs.Common.{arith, length-set}
use Rattle.flux_forest.specs.declared.node.Item.TheVariants.{Element}
use Rattle.flux_plain.proofs.LayoutLaws.{seen, keep, show, keep_room}
use Rattle.flux_plain.proofs.MoveLaws.{went_rename}
use Rattle.flux_plain.proofs.zipper.Zipper.rename.Goals as goal

pub invariant_of-self : goal.invariant_of-self
invariant_of-self c = (
  keep (went_rename (seen c.self.invariant.0 c.self.view_is) c.requires c.args.name c.index_mut.result.now c.index_mut.ensures.value),
  keep_room c.self.invariant.1 (omega (arith, length-set c.self.inside.left.items c.self.inside.start (record { item = Element c.args.name; size = c.index_mut.result.now.size }))) (omega arith) (omega arith),
)

pub returns : goal.returns
returns c =
    show (went_rename (seen c.self.invariant.0 c.self.view_is) c.requires c.args.name c.index_mut.result.now c.index_mut.ensures.value)
