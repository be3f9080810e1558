use Rattle.std.proofs.Common.{◌≡◌, [], map, drop}
use Rattle.flux_grammar.specs.NormalFaults.{repeated}
use Rattle.flux_normal.specs.Procedures.{mention_of_param}
use Rattle.flux_normal.proofs.procedures.check_params.Given as goal

abbrev pub invariant-loop-param : goal.invariant-loop-param
invariant-loop-param l = repeated [] (map mention_of_param l.params) ≡ repeated l.seen.keys (map mention_of_param (drop l.param-index l.params))
