use Rattle.std.proofs.Common.{ap, refl, ◌∙◌}
use Rattle.flux_trees.specs.Hedge.{nil, leaf}
use Rattle.flux_trees.specs.Draft.{add}
use Rattle.flux_nodes.proofs.CopyLaws.{enter-elem, enter-leaf, no-free, at-within}
use Rattle.flux_nodes.proofs.copying.enter.Goals as goal

pub cell_at-cell-requires : goal.cell_at-cell-requires
cell_at-cell-requires c =
    at-within c.args.cells.now c.args.walk c.args.node c.args.forest.now c.requires.walk.run c.requires.walk.walk_is c.requires.node

pub next_in_run-requires : goal.next_in_run-requires
next_in_run-requires c =
    at-within c.args.cells.now c.args.walk c.args.node c.args.forest.now c.requires.walk.run c.requires.walk.walk_is c.requires.node

pub unreachable-requires : goal.unreachable-requires
unreachable-requires c =
    no-free c.args.cells.now c.args.walk c.args.node c.cell_at-cell.result.now c.args.forest.now c.requires.walk.run c.requires.walk.walk_is c.requires.node c.cell_at-cell.ensures c.in-Free.is

pub returns-in_ok-begin_element-in-Elem : goal.returns-in_ok-begin_element-in-Elem
returns-in_ok-begin_element-in-Elem c = record {
  same_run = refl;
  walk_is = λ r s. (enter-elem c.args.cells.now c.args.walk c.args.node c.cell_at-cell.result.now c.in-Elem.name c.args.forest.now c.begin_element.new.self r s c.requires.node c.cell_at-cell.ensures c.in-Elem.is (c.in_ok-begin_element-in-Elem.ensures {u = tt}).ok).0;
  fewer = (enter-elem c.args.cells.now c.args.walk c.args.node c.cell_at-cell.result.now c.in-Elem.name c.args.forest.now c.begin_element.new.self c.requires.walk.run c.requires.walk.walk_is c.requires.node c.cell_at-cell.ensures c.in-Elem.is (c.in_ok-begin_element-in-Elem.ensures {u = tt}).ok).1;
}

pub returns-in_ok-push_atom-in-Leaf : goal.returns-in_ok-push_atom-in-Leaf
returns-in_ok-push_atom-in-Leaf c = record {
  same_run = refl;
  walk_is = λ r s. (enter-leaf c.args.cells.now c.args.walk c.args.node c.cell_at-cell.result.now c.in-Leaf.atom c.args.forest.now c.push_atom.new.self c.next_in_run.result r s c.requires.node c.cell_at-cell.ensures c.in-Leaf.is ((c.in_ok-push_atom-in-Leaf.ensures {u = tt}).ok ∙ ap (λ x. add c.args.forest.now (leaf tt x nil)) (c.in_ok-copy-in-Leaf.ensures {u = tt})) c.next_in_run.ensures.stops c.next_in_run.ensures.goes).0;
  fewer = (enter-leaf c.args.cells.now c.args.walk c.args.node c.cell_at-cell.result.now c.in-Leaf.atom c.args.forest.now c.push_atom.new.self c.next_in_run.result c.requires.walk.run c.requires.walk.walk_is c.requires.node c.cell_at-cell.ensures c.in-Leaf.is ((c.in_ok-push_atom-in-Leaf.ensures {u = tt}).ok ∙ ap (λ x. add c.args.forest.now (leaf tt x nil)) (c.in_ok-copy-in-Leaf.ensures {u = tt})) c.next_in_run.ensures.stops c.next_in_run.ensures.goes).1;
}
