use Rattle.std.proofs.Common.{arith, ap, length}
use Rattle.flux_plain.proofs.LabelLaws.{length-relabelled}
use Rattle.flux_plain.proofs.LayoutLaws.{seen, keep, show, keep_room}
use Rattle.flux_plain.proofs.MoveLaws.{went_relabel}
use Rattle.flux_plain.proofs.zipper.Zipper.relabel.Goals as goal

pub invariant_of-self : goal.invariant_of-self
invariant_of-self c = (
  keep (went_relabel (seen c.self.invariant.0 c.self.view_is) c.requires c.args.place c.args.label c.relabel.new.nodes.items c.relabel.ensures.nodes),
  keep_room c.self.invariant.1 (omega (arith, length-relabelled c.args.place c.args.label c.self.inside.left.items, ap length c.relabel.ensures.nodes)) (omega (arith, c.relabel.ensures.room)) (omega (arith, c.relabel.ensures.room)),
)

pub returns : goal.returns
returns c =
    show (went_relabel (seen c.self.invariant.0 c.self.view_is) c.requires c.args.place c.args.label c.relabel.new.nodes.items c.relabel.ensures.nodes)
