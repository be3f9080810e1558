use Rattle.std.proofs.Common.{inl, subst}
use Rattle.flux_nodes.specs.Tables.{RunAt}
use Rattle.flux_nodes.proofs.TableCalls.{first_node}
use Rattle.flux_nodes.proofs.NodeLaws.{whole_run, content-run, same_run}
use Rattle.flux_nodes.proofs.tests.content.Goals as goal

pub cell-cell-requires : goal.cell-cell-requires
cell-cell-requires c = inl (first_node (whole_run (c.in_ok-run.ensures {u = tt})))

pub returns : goal.returns
returns c run e =
    let at = first_node (whole_run (c.in_ok-run.ensures {u = tt})) in
    subst (RunAt c.args.table.now.document) (same_run c.in_ok-first.first c.in_ok-last.last run e) (content-run c.args.table.now.document c.in_ok-run.run'.first c.cell-cell.result.now c.in_ok-first.first c.in_ok-last.last at (c.cell-cell.ensures.linked at) (c.in_ok-first.was {u = tt}) (c.in_ok-last.was {u = tt}))
