use Rattle.std.proofs.Common.{ap, ◌∙◌, sym, arith}
use Rattle.flux_trees.specs.Draft.{outer}
use Rattle.flux_forest.specs.Flat.{flat}
use Rattle.flux_plain.specs.Layout.{IsLaid}
use Rattle.flux_plain.specs.Moves.{all_of}
use Rattle.flux_plain.proofs.LayoutLaws.{laid, focused_of-laid}
use Rattle.flux_plain.proofs.MoveLaws.{laid_whole}
use Rattle.flux_plain.proofs.zipper.Zipper.over.Goals as goal
use Rattle.flux_plain.proofs.zipper.Zipper.over.Goals.{After-new}

now : (c : After-new) → IsLaid (all_of (outer c.args.document)) c.make_room.new.left.items c.make_room.new.right.items c.new.result.items 0
now c =
    laid_whole (outer c.args.document) c.make_room.new.left.items c.make_room.new.right.items c.new.result.items (c.in_ok-make_room.ensures.left ∙ sym c.into_nodes-left.ensures.flat ∙ ap (λ d. flat (outer d)) c.into_nodes-left.ensures.same) (c.in_ok-make_room.ensures.right ∙ c.new-right.ensures.items) c.new.ensures.items

pub invariant_of-result : goal.invariant_of-result
invariant_of-result c =
    (laid (now c), record { on_left = omega (arith, c.in_ok-make_room.ensures.ok_left); on_right = omega (arith, c.in_ok-make_room.ensures.ok_right) })

pub returns : goal.returns
returns c = focused_of-laid (now c)
