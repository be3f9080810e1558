use Rattle.std.proofs.Common.{sym, ap, ap₂, subst, ◌∙◌}
use Rattle.flux_calculus.specs.declared.ask.Var.TheVariants.{Made}
use Rattle.flux_calculus.specs.Core.{snapshot}
use Rattle.flux_core.specs.Statements.{procs_of}
use Rattle.flux_run.specs.Cases.{AlwaysRuns, start, two, behind}
use Rattle.flux_run.proofs.CaseLaws.{kept}
use Rattle.flux_run.proofs.tests.kept.Goals as goal

pub returns : goal.returns
returns c =
    let first = c.in_ok-first.ensures ∙ ap behind c.variable.ensures in
    let second = c.in_ok-second.ensures ∙ ap behind c.variable-2.ensures in
    let noted = c.in_ok-pair.ensures ∙ ap₂ two first second in
    let read = c.in_ok-main.ensures ∙ ap (snapshot start (Made 0)) noted in
    subst (AlwaysRuns (procs_of c.new-procs.result)) (sym read) (kept _)
