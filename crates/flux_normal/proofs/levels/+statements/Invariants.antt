use Rattle.std.proofs.Common.{ℕ, List, drop}
use Rattle.flux_grammar.specs.Nesting.{core_level}
use Rattle.flux_grammar.specs.NormalStatements.{stmt_form}
use Rattle.flux_normal.specs.Levels.{told}
use Rattle.flux_normal.proofs.LevelLaws.{SoFar}
use Rattle.flux_normal.proofs.levels.+statements.Given as goal

abbrev pub invariant-check_each-loop-stmt : goal.invariant-check_each-loop-stmt
invariant-check_each-loop-stmt l = (procs : List ℕ) → SoFar core_level (stmt_form procs) l.levels (drop l.stmt-index l.stmts) (told l.found) l.stmts
