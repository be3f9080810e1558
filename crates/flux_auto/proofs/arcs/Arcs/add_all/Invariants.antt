use Rattle.std.proofs.Common.{take}
use Rattle.flux_auto.specs.Arcs.{Adds}
use Rattle.flux_auto.proofs.arcs.Arcs.add_all.Given as goal

abbrev pub invariant-loop-edge : goal.invariant-loop-edge
invariant-loop-edge l = Adds l.fn.self l.self l.source (take l.edge-index l.edges)
