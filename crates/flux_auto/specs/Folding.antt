-- A forest as a list of runs, each of one tree.
use Rattle.std.specs.Prelude.{◌≡◌, List, map}
use Rattle.flux_trees.specs.Hedge.{Plain, trees}
use Rattle.flux_forest.specs.declared.view.View.{View}
use Rattle.flux_forest.specs.View.{forest_of}

-- the runs are the trees of the forest, in order
abbrev pub AreTrees : Plain → List View → Type 0
AreTrees h runs = map forest_of runs ≡ trees h
