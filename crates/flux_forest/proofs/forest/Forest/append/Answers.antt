use Rattle.std.proofs.Common.{ap, ◌∙◌}
use Rattle.flux_trees.specs.Draft.{add}
use Rattle.flux_forest.specs.Flat.{draft_of, IsDraft}
use Rattle.flux_forest.specs.View.{forest_of}
use Rattle.flux_forest.proofs.Steps.{laid_out, add_step, draft_of-laid_out}
use Rattle.flux_forest.proofs.ViewLaws.{AreNodes, shown}
use Rattle.flux_forest.proofs.forest.Forest.append.Goals as goal
use Rattle.flux_forest.proofs.forest.Forest.append.Goals.{In_default}

written : (c : In_default) → IsDraft (add (draft_of c.self.inside.nodes.items) (forest_of c.args.view)) c.push_copies.new.nodes.items c.self.inside.begun.items
written c =
    let nodes : AreNodes (forest_of c.args.view) c.args.view.nodes.now = shown c.args.view in
    add_step c.self.invariant (forest_of c.args.view) nodes.same c.in_default.ensures.ok

pub invariant_of-self-in_default : goal.invariant_of-self-in_default
invariant_of-self-in_default c = laid_out (written c)

pub returns-clause-ok : goal.returns-clause-ok
returns-clause-ok c =
    draft_of-laid_out (written c) ∙ ap (λ d. add d (forest_of c.args.view)) c.self.view_is
