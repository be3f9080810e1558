use Rattle.std.proofs.Common.{sym, ap, ap₂, subst, ◌∙◌}
use Rattle.flux_calculus.specs.declared.ask.Var.TheVariants.{Made}
use Rattle.flux_calculus.specs.Core.{insert, snapshot}
use Rattle.flux_core.specs.Statements.{procs_of}
use Rattle.flux_run.specs.Cases.{AlwaysRuns, start, two, on_each}
use Rattle.flux_run.proofs.CaseLaws.{wrapped}
use Rattle.flux_run.proofs.tests.wrapped.Goals as goal

pub returns : goal.returns
returns c =
    let replaced = c.insert-replaced.ensures ∙ ap (insert start) c.in_ok-around.ensures in
    let body = c.in_ok-body.ensures ∙ ap₂ two c.delete.ensures replaced in
    let noted = c.in_ok-note.ensures ∙ ap (snapshot start (Made 0)) body in
    let read = c.in_ok-main.ensures ∙ ap (on_each c.args.a) noted in
    subst (AlwaysRuns (procs_of c.new-procs.result)) (sym read) (wrapped _ _ _)
