use Rattle.std.proofs.Common.{sym, ap, ap₂, subst, ◌∙◌}
use Rattle.flux_calculus.specs.declared.ask.Var.TheVariants.{Made}
use Rattle.flux_calculus.specs.Core.{snapshot}
use Rattle.flux_core.specs.Statements.{procs_of}
use Rattle.flux_run.specs.Cases.{AlwaysRuns, start, two, behind}
use Rattle.flux_run.proofs.CaseLaws.{doubled}
use Rattle.flux_run.proofs.tests.doubled.Goals as goal

pub returns : goal.returns
returns c =
    let first = c.in_ok-first.ensures ∙ ap (snapshot start (Made 0)) (c.in_ok-insert_behind.ensures ∙ ap behind c.variable.ensures) in
    let second = c.in_ok-second.ensures ∙ ap (snapshot start (Made 0)) (c.in_ok-insert_behind-2.ensures ∙ ap behind c.variable-2.ensures) in
    let read = c.in_ok-main.ensures ∙ ap₂ two first second in
    subst (AlwaysRuns (procs_of c.new-procs.result)) (sym read) (doubled _)
