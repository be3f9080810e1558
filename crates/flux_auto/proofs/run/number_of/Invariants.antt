use Rattle.std.proofs.Common.{map}
use Rattle.flux_forest.specs.View.{forest_of}
use Rattle.flux_auto.specs.Built.{state_of}
use Rattle.flux_auto.specs.Profiles.{AreRight, profiles_of}
use Rattle.flux_auto.proofs.Folding.{Walks, work}
use Rattle.flux_auto.proofs.run.number_of.Given as goal

abbrev pub invariant-loop-tree : goal.invariant-loop-tree
invariant-loop-tree l = record {
  right : AreRight (map state_of l.rows) l.profiles;
  walks : Walks (map state_of l.rows) (profiles_of l.profiles) l.outer.items l.trees.items l.rest (forest_of l.fn.run);
}

abbrev pub decreases-loop-tree : goal.decreases-loop-tree
decreases-loop-tree l = work l.outer.items l.trees.items
