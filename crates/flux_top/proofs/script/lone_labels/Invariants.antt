use Rattle.std.proofs.Common.{◌≡◌, map, take, Some}
use Rattle.flux_top.specs.Script.{lone_label}
use Rattle.flux_top.proofs.script.lone_labels.Given as goal

abbrev pub invariant-loop-step : goal.invariant-loop-step
invariant-loop-step l = map lone_label (take l.step-index l.steps) ≡ map Some l.path.items
