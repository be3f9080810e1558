use Rattle.std.proofs.Common.{ap, ◌∙◌}
use Rattle.flux_trees.specs.Hedge.{nil, leaf}
use Rattle.flux_trees.specs.Draft.{add}
use Rattle.flux_forest.proofs.Steps.{laid_out, leaf_step, draft_of-laid_out}
use Rattle.flux_forest.proofs.forest.Forest.push_atom.Goals as goal

pub invariant_of-self-2 : goal.invariant_of-self-2
invariant_of-self-2 c =
    laid_out (leaf_step c.self.invariant c.args.atom c.in_ok-push.ensures.items)

pub returns-clause-ok : goal.returns-clause-ok
returns-clause-ok c =
    draft_of-laid_out (leaf_step c.self.invariant c.args.atom c.in_ok-push.ensures.items) ∙ ap (λ d. add d (leaf tt c.args.atom nil)) c.self.view_is
