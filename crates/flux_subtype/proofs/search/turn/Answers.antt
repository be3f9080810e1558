use Rattle.std.proofs.Common.{sym, subst, List, Bool}
use Rattle.flux_subtype.specs.Search.{Tree, AddsElements, AnsweredBelow, Turned}
use Rattle.flux_subtype.proofs.Turning.{added_trees, tree_answers, turned}
use Rattle.flux_subtype.proofs.search.turn.Goals as goal

pub fill_all-requires-clause-trees : goal.fill_all-requires-clause-trees
fill_all-requires-clause-trees c =
    let adds = subst (λ (p : List Bool). AddsElements c.args.arcs.now c.args.other p c.args.done c.args.found.now.trees.entries c.add_elements.new.trees.entries) c.set_at-set.ensures c.in_ok-add_elements.ensures in
    added_trees _ _ _ _ _ _ _ c.requires.arcs c.requires.done c.requires.so_far.trees adds

pub fill_all-requires-clause-answered : goal.fill_all-requires-clause-answered
fill_all-requires-clause-answered c =
    subst (λ n. AnsweredBelow c.args.part.now c.args.found.now.kept.entries c.add_elements.new.trees.entries n c.args.done) (sym c.len-before.ensures.len)
    (tree_answers _ _ _ _ _ c.in_ok-add_elements.ensures.grows c.requires.so_far.answered)

pub returns : goal.returns
returns c =
    let adds = subst (λ (p : List Bool). AddsElements c.args.arcs.now c.args.other p c.args.done c.args.found.now.trees.entries c.add_elements.new.trees.entries) c.set_at-set.ensures c.in_ok-add_elements.ensures in
    subst (λ (ts : List Tree). Turned c.args.part.now c.args.other c.args.found.now.kept.entries c.fill_all.new.found.kept.entries c.args.found.now.trees.entries ts c.args.done) (sym c.in_ok-fill_all.ensures.trees)
    (turned _ _ _ _ _ _ _ _ c.requires.arcs c.requires.lacks c.requires.done c.requires.so_far adds c.in_ok-fill_all.ensures.fills)
