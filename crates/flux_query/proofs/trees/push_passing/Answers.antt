use Rattle.std.proofs.Common.{◌∙◌, sym}
use Rattle.flux_query.proofs.TreeLaws.{turn_of_passing, end_of_passing}
use Rattle.flux_query.proofs.trees.push_passing.Goals as goal

pub loop-tree-preserved : goal.loop-tree-preserved
loop-tree-preserved c =
    turn_of_passing c.args.test.now _ _ _ c.loop-tree.values _ c.in-Some.ensures.steps c.in_ok-push_if_passing.ensures ∙ c.loop-tree.invariant

pub returns : goal.returns
returns c =
    sym (end_of_passing c.args.test.now _ c.loop-tree.values c.in-None.ensures.steps.0) ∙ c.loop-tree.invariant
