use Rattle.std.proofs.Common.{ap, slice_index_or, ◌∙◌, None, Some}
use Rattle.flux_nodes.specs.Laid.{id}
use Rattle.flux_nodes.specs.Seats.{behind}
use Rattle.flux_nodes.proofs.BuildLaws.{are_numbers, node-trees, node-fits, put-node, built-as}
use Rattle.flux_nodes.proofs.build.put_node.Goals as goal

pub first_inside-first-requires : goal.first_inside-first-requires
first_inside-first-requires c = (node-fits c.requires).0

pub enclose-inside-requires : goal.enclose-inside-requires
enclose-inside-requires c =
    node-trees (slice_index_or c.args.numbers.now c.args.i (id 0)) c.first_inside-first.result c.number_at-after.result c.requires (are_numbers c.args.numbers.now c.args.i c.args.node.size c.first_inside-first.result c.number_at-after.result c.first_inside-first.ensures.some c.first_inside-first.ensures.none c.number_at-after.ensures.some c.number_at-after.ensures.none)

pub returns : goal.returns
returns c h =
    built-as c.put_behind.new.cells _ c.put_behind.new.end _ (c.put_behind.ensures.cells ∙ ap (λ x. behind x None c.number_at-after.result (Some (slice_index_or c.args.numbers.now c.args.i (id 0)))) c.put_cell.ensures) c.put_behind.ensures.end (put-node c.enclose-inside.new.cells (slice_index_or c.args.numbers.now c.args.i (id 0)) c.first_inside-first.result c.number_at-after.result c.enclose-inside.result c.into_kind.result c.into_kind.ensures c.enclose-inside.auto.cells h (are_numbers c.args.numbers.now c.args.i c.args.node.size c.first_inside-first.result c.number_at-after.result c.first_inside-first.ensures.some c.first_inside-first.ensures.none c.number_at-after.ensures.some c.number_at-after.ensures.none) c.enclose-inside.ensures)
