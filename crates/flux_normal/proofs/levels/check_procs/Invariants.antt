use Rattle.std.proofs.Common.{ℕ, List, drop}
use Rattle.flux_grammar.specs.declared.tree.ProcDef.{ProcDef}
use Rattle.flux_grammar.specs.Nesting.{core_level, most_nested}
use Rattle.flux_grammar.specs.NormalStatements.{stmts_form}
use Rattle.flux_normal.specs.Levels.{told}
use Rattle.flux_normal.proofs.LevelLaws.{SoFar}
use Rattle.flux_normal.proofs.levels.check_procs.Given as goal

abbrev pub invariant-loop-proc : goal.invariant-loop-proc
invariant-loop-proc l = (names : List ℕ) → SoFar core_level (λ (p : ProcDef). stmts_form names p.body) most_nested (drop l.proc-index l.procs) (told l.found) l.procs
