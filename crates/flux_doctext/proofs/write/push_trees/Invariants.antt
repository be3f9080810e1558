use Rattle.std.proofs.Common.{◌+◌, ◌*◌, map, vec_len}
use Rattle.flux_trees.specs.Hedge.{size}
use Rattle.flux_forest.specs.View.{forest_of}
use Rattle.flux_doctext.specs.Text.{trees_text}
use Rattle.flux_trees.proofs.HedgeLaws.{steps_left}
use Rattle.flux_doctext.proofs.Levels.{IsWriting, ProperBy}
use Rattle.flux_doctext.proofs.write.push_trees.Given as goal

abbrev pub invariant-loop-outer : goal.invariant-loop-outer
invariant-loop-outer l = record {
  writing : IsWriting l.fn.names l.fn.out.items (trees_text l.fn.names (forest_of l.fn.view)) (vec_len l.fn.out) l.out.items (forest_of l.rest) (map forest_of l.outer.items);
  proper : ProperBy (forest_of l.fn.view) (forest_of l.rest) (map forest_of l.outer.items);
}

abbrev pub decreases-loop-outer : goal.decreases-loop-outer
decreases-loop-outer l = 2 * size (forest_of l.rest) + steps_left (map forest_of l.outer.items)
