use Rattle.std.proofs.Common.{◌∙◌}
use Rattle.flux_forest.specs.View.{forest_of}
use Rattle.flux_query.proofs.TreeLaws.{same_atom_added}
use Rattle.flux_query.proofs.trees.push_same.Goals as goal

pub returns : goal.returns
returns c =
    c.in_ok-push_atom.ensures.ok ∙ same_atom_added c.equal.result (forest_of c.args.left) (forest_of c.args.right) c.args.values.now c.equal.ensures
