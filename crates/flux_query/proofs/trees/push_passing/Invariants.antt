use Rattle.std.proofs.Common.{◌≡◌}
use Rattle.flux_trees.specs.Draft.{add}
use Rattle.flux_forest.specs.View.{forest_of}
use Rattle.flux_calculus.specs.Query.{passing}
use Rattle.flux_query.proofs.trees.push_passing.Given as goal

abbrev pub invariant-loop-tree : goal.invariant-loop-tree
invariant-loop-tree l =
    add l.values (passing l.test l.tree-iterator) ≡ add l.initial.values (passing l.test (forest_of l.view))
