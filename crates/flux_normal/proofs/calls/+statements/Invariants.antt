use Rattle.flux_grammar.specs.NormalFaults.{calls}
use Rattle.flux_normal.proofs.CallLaws.{Left}
use Rattle.flux_normal.proofs.calls.+statements.Given as goal

abbrev pub invariant-check_statements-loop-stmt : goal.invariant-check_statements-loop-stmt
invariant-check_statements-loop-stmt l = Left l.procedures calls l.stmts l.stmt-index
