use Rattle.std.proofs.Common.{sym, ap, subst, ◌∙◌}
use Rattle.flux_core.specs.Statements.{procs_of}
use Rattle.flux_query.specs.Read.{query_of}
use Rattle.flux_run.specs.Cases.{AlwaysRuns, on_each}
use Rattle.flux_run.proofs.CaseLaws.{behind_each}
use Rattle.flux_run.proofs.tests.behind_each.Goals as goal

pub returns : goal.returns
returns c =
    let read = c.in_ok-main.ensures ∙ ap (on_each c.args.a) c.in_ok-body.ensures in
    subst (AlwaysRuns (procs_of c.new-procs.result)) (sym read) (behind_each _ _ _ c.in_ok-marker.ensures)
