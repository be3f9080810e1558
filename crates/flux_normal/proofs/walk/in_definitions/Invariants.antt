use Rattle.std.proofs.Common.{None, map, take}
use Rattle.std.specs.List.{flat_map}
use Rattle.flux_grammar.specs.NormalFaults.{written_in}
use Rattle.flux_normal.specs.Types.{AnswersAll}
use Rattle.flux_normal.proofs.walk.in_definitions.Given as goal

-- nothing is found so far
abbrev pub invariant-loop-definition : goal.invariant-loop-definition
invariant-loop-definition l = AnswersAll l.question (map (λ d. d.body) (take l.definition-index l.types)) None
