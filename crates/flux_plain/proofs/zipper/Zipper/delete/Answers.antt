use Rattle.std.proofs.Common.{arith}
use Rattle.flux_plain.proofs.LayoutLaws.{seen, keep, show, keep_room}
use Rattle.flux_plain.proofs.MoveLaws.{went_delete}
use Rattle.flux_plain.proofs.zipper.Zipper.delete.Goals as goal

pub invariant_of-self : goal.invariant_of-self
invariant_of-self c = (
  keep (went_delete (seen c.self.invariant.0 c.self.view_is) c.truncate.new.self.items c.truncate.ensures.items),
  keep_room c.self.invariant.1 (omega (arith, c.self.inside.left.ok.0, c.truncate.new.self.ok.0)) (omega arith) (omega arith),
)

pub returns : goal.returns
returns c =
    show (went_delete (seen c.self.invariant.0 c.self.view_is) c.truncate.new.self.items c.truncate.ensures.items)
