use Rattle.std.proofs.Common.{◌≢◌, refl, arith}
use Rattle.flux_trees.specs.Hedge.{nil}
use Rattle.flux_trees.proofs.HedgeLaws.{size-first-le}
use Rattle.flux_plain.proofs.LayoutLaws.{seen, keep, show, keep_room}
use Rattle.flux_plain.proofs.RunLaws.{moved_length}
use Rattle.flux_plain.proofs.MoveLaws.{found_first, at_end, not_at_end, first_node_size, focus_length}
use Rattle.flux_plain.proofs.zipper.Zipper.first.Goals as goal
use Rattle.flux_plain.proofs.zipper.Zipper.first.Goals.{After-index}

-- the focus isn't empty
some : (c : After-index) → c.args.self.now.focus ≢ nil
some c =
    not_at_end (seen c.self.invariant.0 c.self.view_is) (λ e. c.if-start-len.false (omega arith))

pub returns-then-start-len-clause-none : goal.returns-then-start-len-clause-none
returns-then-start-len-clause-none c none =
    (at_end (seen c.self.invariant.0 c.self.view_is) (omega arith), refl)

pub overflow_sub-count-2 : goal.overflow_sub-count-2
overflow_sub-count-2 c =
    omega (arith, first_node_size (seen c.self.invariant.0 c.self.view_is) (some c) c.index.result.now c.index.ensures, focus_length (seen c.self.invariant.0 c.self.view_is), size-first-le c.args.self.now.focus)

pub invariant_of-self-2 : goal.invariant_of-self-2
invariant_of-self-2 c = (
  keep (found_first (seen c.self.invariant.0 c.self.view_is) (some (goal.at.invariant_of-self-2 c).After-index) c.index.result.now c.index.ensures (omega arith) c.move_nodes.ensures.moved c.push.new.self.items c.in_ok-push.ensures.items),
  keep_room c.self.invariant.1 (omega (arith, moved_length c.move_nodes.ensures.moved)) (omega arith) (omega arith),
)

pub returns-clause-more : goal.returns-clause-more
returns-clause-more c more =
    show (found_first (seen c.self.invariant.0 c.self.view_is) (some (goal.at.returns-clause-more c).After-index) c.index.result.now c.index.ensures (omega arith) c.move_nodes.ensures.moved c.push.new.self.items c.in_ok-push.ensures.items)
