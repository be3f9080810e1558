use Rattle.std.proofs.Common.{arith, length-set}
use Rattle.flux_plain.proofs.LayoutLaws.{seen, keep, show, keep_room}
use Rattle.flux_plain.proofs.MoveLaws.{went_down}
use Rattle.flux_plain.proofs.zipper.Zipper.down.Goals as goal

pub invariant_of-self-2 : goal.invariant_of-self-2
invariant_of-self-2 c = (
  keep (went_down (seen c.self.invariant.0 c.self.view_is) c.requires c.index_mut.result.now c.index_mut.ensures.value c.push.new.self.items c.in_ok-push.ensures.items),
  keep_room c.self.invariant.1 (omega (arith, length-set c.self.inside.left.items c.self.inside.start (record { item = c.index_mut.result.now.item; size = 0 }))) (omega arith) (omega arith),
)

pub returns-clause-ok : goal.returns-clause-ok
returns-clause-ok c =
    show (went_down (seen c.self.invariant.0 c.self.view_is) c.requires c.index_mut.result.now c.index_mut.ensures.value c.push.new.self.items c.in_ok-push.ensures.items)
