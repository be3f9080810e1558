use Rattle.std.proofs.Common.{◌≡◌, ◌++◌, ap, ap₂, ◌∙◌, sym, arith}
use Rattle.flux_trees.specs.Draft.{outer}
use Rattle.flux_forest.specs.View.{forest_of}
use Rattle.flux_forest.specs.Flat.{flat}
use Rattle.flux_plain.proofs.LayoutLaws.{seen, keep, show, with_right}
use Rattle.flux_plain.proofs.MoveLaws.{went_insert}
use Rattle.flux_plain.proofs.zipper.Zipper.insert.Goals as goal
use Rattle.flux_plain.proofs.zipper.Zipper.insert.Goals.{In_default}

added : (c : In_default) → c.append.new.self.items ≡ c.self.inside.left.items ++ flat (forest_of c.args.view)
added c =
    c.in_default.ensures.items ∙ ap₂ ◌++◌ c.in_ok-make_room.ensures.left (sym c.into_nodes-nodes.ensures.flat ∙ ap (λ d. flat (outer d)) (c.into_nodes-nodes.ensures.same ∙ c.in_ok-copy.ensures))

pub invariant_of-self-2 : goal.invariant_of-self-2
invariant_of-self-2 c = (
  keep (went_insert (with_right (seen c.self.invariant.0 c.self.view_is) c.in_ok-make_room.ensures.right) c.requires (forest_of c.args.view) c.append.new.self.items (added (goal.at.invariant_of-self-2 c).In_default)),
  record {
    on_left = omega (arith, c.in_ok-make_room.ensures.ok_left, c.in_default.ensures.len, c.append.new.self.ok.0, c.make_room.new.left.ok.0, c.in_default.ensures.capacity);
    on_right = omega (arith, c.in_ok-make_room.ensures.ok_right, c.in_default.ensures.len, c.append.new.self.ok.0, c.make_room.new.left.ok.0);
  },
)

pub returns-clause-ok : goal.returns-clause-ok
returns-clause-ok c =
    show (went_insert (with_right (seen c.self.invariant.0 c.self.view_is) c.in_ok-make_room.ensures.right) c.requires (forest_of c.args.view) c.append.new.self.items (added (goal.at.returns-clause-ok c).In_default))
