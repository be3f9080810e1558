use Rattle.std.proofs.Common.{sym, ap, subst, ◌∙◌, []}
use Rattle.flux_calculus.specs.Core.{call}
use Rattle.flux_core.specs.Statements.{procs_of}
use Rattle.flux_run.specs.Cases.{AlwaysRuns, DoesAlone}
use Rattle.flux_run.proofs.CaseLaws.{stripped}
use Rattle.flux_run.proofs.tests.stripped.Goals as goal

pub returns : goal.returns
returns c =
    let procs = procs_of c.in_ok-procs.procs in
    let read = c.call-main.ensures ∙ ap (λ at. call at 0 []) c.nowhere.ensures in
    let body = subst (DoesAlone procs) c.in_ok-body.ensures c.in_ok-procs.ensures in
    subst (AlwaysRuns procs) (sym read) (stripped procs c.args.a c.args.b body)
