use Rattle.flux_auto.specs.Witness.{forest_at, forests}
use Rattle.flux_auto.proofs.Building.{Builds, costs}
use Rattle.flux_auto.proofs.recipe.build.Given as goal

abbrev pub invariant-loop-task : goal.invariant-loop-task
invariant-loop-task l = Builds l.recipes (forest_at (forests l.recipes) l.start) l.tasks.items l.forest

abbrev pub decreases-loop-task : goal.decreases-loop-task
decreases-loop-task l = costs (forests l.recipes) l.tasks.items
