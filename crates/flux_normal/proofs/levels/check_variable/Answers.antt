use Rattle.std.proofs.Common.{sym, subst}
use Rattle.flux_grammar.specs.Nesting.{core_level}
use Rattle.flux_grammar.specs.NormalStatements.{remembered}
use Rattle.flux_normal.specs.Levels.{Finds}
use Rattle.flux_normal.proofs.levels.check_variable.Goals as goal

pub returns-in-None : goal.returns-in-None
returns-in-None c = λ s o found. subst (λ x. Finds core_level (remembered c.args.at x s) c.args.levels o) (sym c.in-None.is) found
