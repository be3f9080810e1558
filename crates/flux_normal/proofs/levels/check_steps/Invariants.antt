use Rattle.std.proofs.Common.{◌≡◌, ◌-◌, ◌+◌, ℕ, length, drop}
use Rattle.flux_calculus.specs.Query.{Query}
use Rattle.flux_grammar.specs.Nesting.{query_level}
use Rattle.flux_grammar.specs.NormalQueries.{Numbered, steps_on}
use Rattle.flux_normal.specs.Levels.{told, Finds}
use Rattle.flux_normal.proofs.PathLaws.{StepsSoFar}
use Rattle.flux_normal.proofs.levels.check_steps.Given as goal

abbrev pub invariant-loop-step : goal.invariant-loop-step
invariant-loop-step l = record {
  counted : l.behind + l.step-index ≡ length l.steps;
  so_far : StepsSoFar l.steps l.levels (told l.fn.from) (drop l.step-index l.steps) (told l.found);
}
