use Rattle.std.proofs.Common.{ap, arith, length, refl, ◌∙◌, Some}
use Rattle.flux_nodes.specs.Laid.{edit, with_next}
use Rattle.flux_nodes.specs.Seats.{ahead, behind}
use Rattle.flux_nodes.proofs.CallLaws.{loose_of, first-within, last-within, place-parent-in, place-after-in, place-next-in, linked}
use Rattle.flux_nodes.proofs.links.link.Goals as goal

pub following-next-requires-clause-after_in : goal.following-next-requires-clause-after_in
following-next-requires-clause-after_in c =
    place-after-in c.args.cells.now c.args.top.now c.args.end.now c.args.place c.args.run (length c.args.cells.now) c.requires refl

pub following-next-requires-clause-parent_in : goal.following-next-requires-clause-parent_in
following-next-requires-clause-parent_in c =
    place-parent-in c.args.cells.now c.args.top.now c.args.end.now c.args.place c.args.run (length c.args.cells.now) c.requires refl

pub put_parents-requires : goal.put_parents-requires
put_parents-requires c =
    loose_of c.args.cells.now c.args.top.now c.args.end.now c.args.place c.args.run c.requires

pub put_prev-requires : goal.put_prev-requires
put_prev-requires c =
    omega (arith, c.put_parents.auto.cells, first-within c.args.cells.now c.args.run (loose_of c.args.cells.now c.args.top.now c.args.end.now c.args.place c.args.run c.requires))

pub put_next-requires : goal.put_next-requires
put_next-requires c =
    omega (arith, c.put_parents.auto.cells, c.put_prev.auto.cells, last-within c.args.cells.now c.args.run (loose_of c.args.cells.now c.args.top.now c.args.end.now c.args.place c.args.run c.requires))

pub put_ahead-requires-clause-prev_in : goal.put_ahead-requires-clause-prev_in
put_ahead-requires-clause-prev_in c =
    place-after-in c.args.cells.now c.args.top.now c.args.end.now c.args.place c.args.run (length c.put_next.new.cells) c.requires (omega (arith, c.put_parents.auto.cells, c.put_prev.auto.cells, c.put_next.auto.cells))

pub put_ahead-requires-clause-parent_in : goal.put_ahead-requires-clause-parent_in
put_ahead-requires-clause-parent_in c =
    place-parent-in c.args.cells.now c.args.top.now c.args.end.now c.args.place c.args.run (length c.put_next.new.cells) c.requires (omega (arith, c.put_parents.auto.cells, c.put_prev.auto.cells, c.put_next.auto.cells))

pub put_behind-requires-clause-next_in : goal.put_behind-requires-clause-next_in
put_behind-requires-clause-next_in c =
    place-next-in c.args.cells.now c.args.top.now c.args.end.now c.args.place c.args.run c.following-next.result (length c.put_ahead.new.cells) c.following-next.ensures c.requires (omega (arith, c.put_parents.auto.cells, c.put_prev.auto.cells, c.put_next.auto.cells, c.put_ahead.auto.cells))

pub put_behind-requires-clause-parent_in : goal.put_behind-requires-clause-parent_in
put_behind-requires-clause-parent_in c =
    place-parent-in c.args.cells.now c.args.top.now c.args.end.now c.args.place c.args.run (length c.put_ahead.new.cells) c.requires (omega (arith, c.put_parents.auto.cells, c.put_prev.auto.cells, c.put_next.auto.cells, c.put_ahead.auto.cells))

pub returns : goal.returns
returns c =
    linked c.args.cells.now c.put_parents.new.cells c.args.top.now c.args.end.now c.put_ahead.new.top c.put_behind.new.end c.put_behind.new.cells c.args.place c.args.run c.following-next.result c.put_parents.ensures c.put_parents.auto.cells c.following-next.ensures (c.put_behind.ensures.cells ∙ ap (λ x. behind x c.args.place.parent c.following-next.result (Some c.args.run.last)) (c.put_ahead.ensures.cells ∙ ap (λ x. ahead x c.args.place.parent c.args.place.after (Some c.args.run.first)) (c.put_next.ensures ∙ ap (edit (with_next c.following-next.result) c.args.run.last.0) c.put_prev.ensures))) c.put_ahead.ensures.top c.put_behind.ensures.end
