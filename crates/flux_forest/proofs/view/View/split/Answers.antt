use Rattle.std.proofs.Common.{arith}
use Rattle.flux_trees.proofs.HedgeLaws.{size-first-le}
use Rattle.flux_forest.specs.View.{forest_of}
use Rattle.flux_forest.proofs.ViewLaws.{shown, view_is, is_flat, length-nodes, first_step, others_step}
use Rattle.flux_forest.proofs.view.View.split.Goals as goal

pub split_at-requires : goal.split_at-requires
split_at-requires c =
    omega (arith, size-first-le (forest_of c.args.self), length-nodes (shown c.args.self))

pub invariant_of-first : goal.invariant_of-first
invariant_of-first c = record {
  is_flat = is_flat (first_step (shown c.args.self) c.first_size.ensures c.split_at.ensures.front);
}

pub invariant_of-others : goal.invariant_of-others
invariant_of-others c = record {
  is_flat = is_flat (others_step (shown c.args.self) c.first_size.ensures c.split_at.ensures.back);
}

pub returns-clause-first : goal.returns-clause-first
returns-clause-first c =
    view_is (first_step (shown c.args.self) c.first_size.ensures c.split_at.ensures.front)

pub returns-clause-others : goal.returns-clause-others
returns-clause-others c =
    view_is (others_step (shown c.args.self) c.first_size.ensures c.split_at.ensures.back)
