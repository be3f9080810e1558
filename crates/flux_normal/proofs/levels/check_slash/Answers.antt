use Rattle.std.proofs.Common.{sym, subst}
use Rattle.flux_grammar.specs.Nesting.{core_level}
use Rattle.flux_normal.specs.Levels.{Finds, behind_step}
use Rattle.flux_normal.proofs.levels.check_slash.Goals as goal

pub returns-else-goes_on : goal.returns-else-goes_on
returns-else-goes_on c = λ s o found. subst (λ b. Finds core_level (behind_step c.args.step.now b s) c.args.levels o) (sym c.if-goes_on.false) found
