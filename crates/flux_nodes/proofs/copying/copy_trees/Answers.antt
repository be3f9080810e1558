use Rattle.std.proofs.Common.{refl, ◌∙◌}
use Rattle.flux_nodes.proofs.CallLaws.{first-within}
use Rattle.flux_nodes.proofs.CopyLaws.{test-false, test-true, walk-start, walk-end, walk-has, walk-on}
use Rattle.flux_nodes.proofs.copying.copy_trees.Goals as goal

pub parent_of-requires : goal.parent_of-requires
parent_of-requires c = first-within c.args.cells.now c.args.run c.requires

pub nodes-init : goal.nodes-init
nodes-init c = record {
  same_run = refl;
  walk_is = λ r. walk-start c.args.cells.now c.args.run c.parent_of.result c.new-forest.result r c.parent_of.ensures c.new-forest.ensures;
}

pub step-requires : goal.step-requires
step-requires c =
    walk-has c.args.cells.now c.args.run c.nodes.walk c.nodes.forest c.nodes.invariant.same_run c.requires c.nodes.invariant.walk_is (test-false c.is_over.result c.nodes-test.true c.is_over.ensures.1)

pub nodes-preserved : goal.nodes-preserved
nodes-preserved c = record {
  same_run = (c.in_ok-walk.ensures {u = tt}).same_run ∙ c.nodes.invariant.same_run;
  walk_is = walk-on c.args.cells.now c.args.run c.nodes.walk c.in_ok-walk.walk c.nodes.forest c.step.new.forest c.nodes.invariant.same_run c.nodes.invariant.walk_is (c.in_ok-walk.ensures {u = tt});
}

pub returns : goal.returns
returns c r =
    let over = test-true c.is_over.result c.nodes-test.false c.is_over.ensures.0 in
    walk-end c.nodes.walk r.trees r.parent c.nodes.forest (c.nodes.invariant.walk_is r) over.0 over.1
