use Rattle.std.proofs.Common.{◌≡◌, ◌++◌, take}
use Rattle.flux_auto.specs.Arcs.{leaps_along}
use Rattle.flux_auto.proofs.arcs.add_leaps.Given as goal

abbrev pub invariant-loop-arc : goal.invariant-loop-arc
invariant-loop-arc l = l.leaps.items ≡ l.fn.leaps.items ++ leaps_along l.content (take l.arc-index l.arcs)
