use Rattle.std.proofs.Common.{ap, ◌≡◌}
use Rattle.std.proofs.lemmas.Result.{IfOk-weaker}
use Rattle.flux_trees.specs.Hedge.{erase}
use Rattle.flux_trees.specs.Draft.{done, depth}
use Rattle.flux_nodes.proofs.NodeLaws.{whole_run}
use Rattle.flux_nodes.proofs.tests.document.Goals as goal

pub returns-in-Some : goal.returns-in-Some
returns-in-Some c =
    IfOk-weaker c.copy_run.result (λ f. f ≡ done (erase c.args.table.now.document)) (λ f. depth f ≡ 0) (λ f e. ap depth e) (c.copy_run.ensures.document (whole_run (c.in-Some.ensures {u = tt})))
