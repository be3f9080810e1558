use Rattle.std.proofs.Common.{◌≡◌, drop, map}
use Rattle.flux_grammar.specs.NormalQueries.{of_all}
use Rattle.flux_normal.specs.Layers.{layer_of, step_form}
use Rattle.flux_normal.proofs.Counted.{behind}
use Rattle.flux_normal.proofs.queries.Normalizer.layers.Given as goal

abbrev pub invariant-loop-step : goal.invariant-loop-step
invariant-loop-step l = behind (map layer_of l.layers) (of_all (map step_form (drop l.step-index l.step-items)) l.self.made) ≡ of_all (map step_form l.step-items) l.fn.self.made
