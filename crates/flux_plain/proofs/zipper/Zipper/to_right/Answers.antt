use Rattle.std.proofs.Common.{arith}
use Rattle.flux_plain.proofs.LayoutLaws.{seen, keep, show}
use Rattle.flux_plain.proofs.MoveLaws.{went_right}
use Rattle.flux_plain.proofs.zipper.Zipper.to_right.Goals as goal

pub invariant_of-self-2 : goal.invariant_of-self-2
invariant_of-self-2 c = (
  keep (went_right (seen c.self.invariant.0 c.self.view_is) c.len-self-inside.result (omega arith) c.push.new.self.items c.in_ok-push.ensures.items),
  c.self.invariant.1,
)

pub returns-clause-ok : goal.returns-clause-ok
returns-clause-ok c =
    show (went_right (seen c.self.invariant.0 c.self.view_is) c.len-self-inside.result (omega arith) c.push.new.self.items c.in_ok-push.ensures.items)
