use Rattle.std.proofs.Common.{take, map}
use Rattle.flux_auto.specs.Arcs.{IsIndex}
use Rattle.flux_auto.specs.Built.{state_of}
use Rattle.flux_auto.proofs.sets.arcs_of.Given as goal

abbrev pub invariant-loop-source : goal.invariant-loop-source
invariant-loop-source l = IsIndex (take l.source (map state_of l.rows)) l.arcs
