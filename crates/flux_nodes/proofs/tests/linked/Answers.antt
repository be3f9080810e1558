use Rattle.std.proofs.Common.{ap, ◌∙◌}
use Rattle.flux_forest.specs.View.{forest_of}
use Rattle.flux_nodes.specs.Tables.{Meaning}
use Rattle.flux_nodes.proofs.NodeLaws.{empty_place, add-document}
use Rattle.flux_nodes.proofs.tests.linked.Goals as goal

pub link_range-requires-clause-place : goal.link_range-requires-clause-place
link_range-requires-clause-place c =
    empty_place (ap (λ (m : Meaning). m.document) (c.in_ok-run.ensures {u = tt}).ok ∙ add-document c.new-table.result (forest_of c.args.view) ∙ ap (λ (m : Meaning). m.document) c.new-table.ensures)
