use Rattle.std.proofs.Common.{◌≡◌, drop, map}
use Rattle.flux_core.specs.Statements.{core_of}
use Rattle.flux_grammar.specs.NormalQueries.{of_all}
use Rattle.flux_grammar.specs.NormalStatements.{stmt_form}
use Rattle.flux_normal.specs.Heads.{names_in}
use Rattle.flux_normal.proofs.Counted.{behind}
use Rattle.flux_normal.proofs.queries.Normalizer.+statements.Given as goal

abbrev pub invariant-statements-loop-stmt : goal.invariant-statements-loop-stmt
invariant-statements-loop-stmt l = behind (map core_of l.cores) (of_all (map (stmt_form (names_in l.procs)) (drop l.stmt-index l.stmts)) l.self.made) ≡ of_all (map (stmt_form (names_in l.procs)) l.stmts) l.fn.self.made
