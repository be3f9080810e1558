use Rattle.flux_trees.specs.Hedge.{Hedge}
use Rattle.flux_forest.specs.declared.view.View.{View}
use Rattle.flux_forest.specs.Flat.{hedge_of}

-- the forest that a view shows
abbrev pub forest_of : View → Hedge (Unit {0})
forest_of view = hedge_of view.nodes.now
