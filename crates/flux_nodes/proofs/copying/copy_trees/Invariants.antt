use Rattle.std.proofs.Common.{◌≡◌, length}
use Rattle.flux_nodes.specs.Laid.{RunLaid}
use Rattle.flux_nodes.specs.Copied.{IsWalk, steps_to}
use Rattle.flux_nodes.proofs.copying.copy_trees.Given as goal

abbrev pub invariant-nodes : goal.invariant-nodes
invariant-nodes l = record {
  same_run : l.walk.run ≡ l.fn.run;
  walk_is : (r : RunLaid l.cells l.fn.run) → IsWalk l.walk r.trees r.parent l.forest;
}

abbrev pub decreases-nodes : goal.decreases-nodes
decreases-nodes l = steps_to (length l.cells) l.forest
