use Rattle.std.proofs.Common.{◌≡◌, length, map}
use Rattle.flux_core.specs.Statements.{core_of}
use Rattle.flux_normal.specs.Layers.{layer_of, under_steps, under_slashes}
use Rattle.flux_normal.proofs.paths.under_layers.Given as goal

abbrev pub invariant-loop-layer : goal.invariant-loop-layer
invariant-loop-layer l = under_slashes (map layer_of l.layers) (core_of l.made) ≡ under_steps (map layer_of l.fn.layers) (core_of l.fn.core)

abbrev pub decreases-loop-layer : goal.decreases-loop-layer
decreases-loop-layer l = length l.layers
