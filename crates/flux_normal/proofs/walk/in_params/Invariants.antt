use Rattle.std.proofs.Common.{None, map, take}
use Rattle.std.specs.List.{flat_map}
use Rattle.flux_grammar.specs.NormalFaults.{written_in}
use Rattle.flux_normal.specs.Types.{AnswersAll}
use Rattle.flux_normal.proofs.walk.in_params.Given as goal

-- nothing is found so far
abbrev pub invariant-loop-param : goal.invariant-loop-param
invariant-loop-param l = AnswersAll l.question (map (λ p. p.ty) (take l.param-index l.params)) None
