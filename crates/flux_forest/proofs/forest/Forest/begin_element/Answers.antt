use Rattle.std.proofs.Common.{ap, ◌∙◌, ◌++◌, ◌∷◌, [], arith}
use Rattle.flux_trees.specs.Draft.{begin}
use Rattle.flux_forest.specs.Flat.{draft_of, IsDraft}
use Rattle.flux_forest.proofs.Steps.{laid_out, begin_step, draft_of-laid_out}
use Rattle.flux_forest.proofs.forest.Forest.begin_element.Goals as goal
use Rattle.flux_forest.proofs.forest.Forest.begin_element.Goals.{In_default}

written : (c : In_default) → IsDraft (begin (draft_of c.self.inside.nodes.items) tt c.args.name) c.push.new.self.items c.push-2.new.self.items
written c =
    begin_step c.self.invariant c.args.name c.len-at.result c.in_ok-push.ensures.items (omega arith) (c.in_default.ensures.items ∙ ap (λ ps. ps ++ c.len-at.result ∷ []) c.in_ok-try_reserve.ensures.items)

pub invariant_of-self-2 : goal.invariant_of-self-2
invariant_of-self-2 c = laid_out (written c)

pub returns-clause-ok : goal.returns-clause-ok
returns-clause-ok c =
    draft_of-laid_out (written c) ∙ ap (λ d. begin d tt c.args.name) c.self.view_is
