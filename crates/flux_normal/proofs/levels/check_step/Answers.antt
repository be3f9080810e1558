use Rattle.std.proofs.Common.{Err}
use Rattle.flux_calculus.specs.Core.{Core}
use Rattle.flux_grammar.specs.NormalQueries.{Numbered}
use Rattle.flux_grammar.specs.NormalStatements.{tested, remembered, filtered}
use Rattle.flux_normal.specs.Levels.{behind_step}
use Rattle.flux_normal.proofs.PathLaws.{leaves_both, leaves_stop}
use Rattle.flux_normal.proofs.levels.check_step.Goals as goal

pub returns-in-Ok-check_filter : goal.returns-in-Ok-check_filter
returns-in-Ok-check_filter c =
    leaves_both (tested c.args.step.now.span c.args.step.now.test) (λ s. remembered c.args.step.now.span c.args.step.now.var (filtered c.args.step.now.span c.args.step.now.filter (behind_step c.args.step.now c.args.goes_on s))) _ _ _ _ c.in-Ok.is c.check_test.ensures
    (leaves_both (remembered c.args.step.now.span c.args.step.now.var) (λ s. filtered c.args.step.now.span c.args.step.now.filter (behind_step c.args.step.now c.args.goes_on s)) _ _ _ _ c.in-Ok-check_variable.is c.check_variable.ensures
    (leaves_both (filtered c.args.step.now.span c.args.step.now.filter) (behind_step c.args.step.now c.args.goes_on) _ _ _ _ c.in-Ok-check_filter.is c.check_filter.ensures c.check_slash.ensures))

pub returns-in-Err-check_filter : goal.returns-in-Err-check_filter
returns-in-Err-check_filter c =
    leaves_both (tested c.args.step.now.span c.args.step.now.test) (λ s. remembered c.args.step.now.span c.args.step.now.var (filtered c.args.step.now.span c.args.step.now.filter (behind_step c.args.step.now c.args.goes_on s))) _ _ _ (Err c.in-Err-check_filter.place) c.in-Ok.is c.check_test.ensures
    (leaves_both (remembered c.args.step.now.span c.args.step.now.var) (λ s. filtered c.args.step.now.span c.args.step.now.filter (behind_step c.args.step.now c.args.goes_on s)) _ _ _ (Err c.in-Err-check_filter.place) c.in-Ok-check_variable.is c.check_variable.ensures
    (leaves_stop (filtered c.args.step.now.span c.args.step.now.filter) (behind_step c.args.step.now c.args.goes_on) _ _ _ c.in-Err-check_filter.is c.check_filter.ensures))

pub returns-in-Err-check_variable : goal.returns-in-Err-check_variable
returns-in-Err-check_variable c =
    leaves_both (tested c.args.step.now.span c.args.step.now.test) (λ s. remembered c.args.step.now.span c.args.step.now.var (filtered c.args.step.now.span c.args.step.now.filter (behind_step c.args.step.now c.args.goes_on s))) _ _ _ (Err c.in-Err-check_variable.place) c.in-Ok.is c.check_test.ensures
    (leaves_stop (remembered c.args.step.now.span c.args.step.now.var) (λ s. filtered c.args.step.now.span c.args.step.now.filter (behind_step c.args.step.now c.args.goes_on s)) _ _ _ c.in-Err-check_variable.is c.check_variable.ensures)

pub returns-in-Err : goal.returns-in-Err
returns-in-Err c =
    leaves_stop (tested c.args.step.now.span c.args.step.now.test) (λ s. remembered c.args.step.now.span c.args.step.now.var (filtered c.args.step.now.span c.args.step.now.filter (behind_step c.args.step.now c.args.goes_on s))) _ _ _ c.in-Err.is c.check_test.ensures
