use Rattle.std.proofs.Common.{ap, ◌∙◌, ◌≡◌, length, arith}
use Rattle.std.proofs.lemmas.Bool.Decides.{nat_tests}
use Rattle.flux_trees.specs.Draft.{depth}
use Rattle.flux_forest.proofs.Steps.{depth-length}
use Rattle.flux_forest.proofs.forest.Forest.is_whole.Goals as goal

pub returns : goal.returns
returns c =
    let count : length c.self.inside.begun.items ≡ depth c.args.self.now = depth-length c.self.invariant ∙ ap depth c.self.view_is in
    let held : length c.self.inside.begun.items ≡ Rattle.std.specs.Vec.vec_len c.self.inside.begun = omega arith in
    grind (arith, nat_tests)
