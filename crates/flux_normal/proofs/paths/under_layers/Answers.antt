use Rattle.flux_core.specs.Statements.{core_of}
use Rattle.std.proofs.Common.{◌∙◌}
use Rattle.flux_normal.proofs.Layered.{last_layer, next_layer}
use Rattle.flux_normal.proofs.paths.under_layers.Goals as goal

pub loop-layer-init : goal.loop-layer-init
loop-layer-init c =
    last_layer c.args.layers c.pop.new.self c.in-Some.last (core_of c.args.core) (core_of c.in_ok-made.made) c.in-Some.ensures c.in_ok-made.ensures

pub loop-layer-preserved : goal.loop-layer-preserved
loop-layer-preserved c =
    next_layer c.loop-layer.layers c.pop-in-loop-layer.new.self c.in-Some-pop.layer (core_of c.loop-layer.made) (core_of c.in_ok-children.children) (core_of c.in_ok-made-2.made) c.in-Some-pop.ensures c.in_ok-children.ensures c.in_ok-made-2.ensures ∙ c.loop-layer.invariant
