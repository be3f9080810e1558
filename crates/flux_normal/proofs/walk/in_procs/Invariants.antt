use Rattle.std.proofs.Common.{None, map, take}
use Rattle.std.specs.List.{flat_map}
use Rattle.flux_grammar.specs.NormalFaults.{written_in}
use Rattle.flux_normal.specs.Types.{AnswersAll}
use Rattle.flux_normal.proofs.walk.in_procs.Given as goal

-- nothing is found so far
abbrev pub invariant-loop-one : goal.invariant-loop-one
invariant-loop-one l = AnswersAll l.question (flat_map written_in (take l.one-index l.procs)) None
