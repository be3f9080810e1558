use Rattle.std.proofs.Common.{arith}
use Rattle.flux_plain.proofs.LayoutLaws.{seen, keep, show, keep_room}
use Rattle.flux_plain.proofs.RunLaws.{moved_length}
use Rattle.flux_plain.proofs.MoveLaws.{went_left}
use Rattle.flux_plain.proofs.zipper.Zipper.to_left.Goals as goal

pub invariant_of-self-2 : goal.invariant_of-self-2
invariant_of-self-2 c = (
  keep (went_left (seen c.self.invariant.0 c.self.view_is) (omega arith) c.move_nodes.ensures.moved c.push.new.self.items c.in_ok-push.ensures.items),
  keep_room c.self.invariant.1 (omega (arith, moved_length c.move_nodes.ensures.moved)) (omega arith) (omega arith),
)

pub returns-clause-ok : goal.returns-clause-ok
returns-clause-ok c =
    show (went_left (seen c.self.invariant.0 c.self.view_is) (omega arith) c.move_nodes.ensures.moved c.push.new.self.items c.in_ok-push.ensures.items)
