use Rattle.std.proofs.Common.{ap, arith, length, ◌∙◌, None}
use Rattle.flux_nodes.specs.Laid.{edit, with_next}
use Rattle.flux_nodes.specs.Seats.{ahead, behind}
use Rattle.flux_nodes.proofs.CallLaws.{run_of, first-within, last-within, parent-in, prev-in, next-in, unlinked}
use Rattle.flux_nodes.proofs.links.unlink.Goals as goal

pub parent_of-parent-requires : goal.parent_of-parent-requires
parent_of-parent-requires c =
    first-within c.args.cells.now c.args.run (run_of c.args.cells.now c.args.top.now c.args.end.now c.args.run c.requires)

pub prev_of-prev-requires : goal.prev_of-prev-requires
prev_of-prev-requires c =
    first-within c.args.cells.now c.args.run (run_of c.args.cells.now c.args.top.now c.args.end.now c.args.run c.requires)

pub next_of-next-requires : goal.next_of-next-requires
next_of-next-requires c =
    last-within c.args.cells.now c.args.run (run_of c.args.cells.now c.args.top.now c.args.end.now c.args.run c.requires)

pub put_parents-requires : goal.put_parents-requires
put_parents-requires c = run_of c.args.cells.now c.args.top.now c.args.end.now c.args.run c.requires

pub put_prev-requires : goal.put_prev-requires
put_prev-requires c =
    omega (arith, c.put_parents.auto.cells, first-within c.args.cells.now c.args.run (run_of c.args.cells.now c.args.top.now c.args.end.now c.args.run c.requires))

pub put_next-requires : goal.put_next-requires
put_next-requires c =
    omega (arith, c.put_parents.auto.cells, c.put_prev.auto.cells, last-within c.args.cells.now c.args.run (run_of c.args.cells.now c.args.top.now c.args.end.now c.args.run c.requires))

pub put_ahead-requires-clause-prev_in : goal.put_ahead-requires-clause-prev_in
put_ahead-requires-clause-prev_in c =
    prev-in c.args.cells.now c.args.top.now c.args.end.now c.args.run c.prev_of-prev.result (length c.put_next.new.cells) c.prev_of-prev.ensures c.requires (omega (arith, c.put_parents.auto.cells, c.put_prev.auto.cells, c.put_next.auto.cells))

pub put_ahead-requires-clause-parent_in : goal.put_ahead-requires-clause-parent_in
put_ahead-requires-clause-parent_in c =
    parent-in c.args.cells.now c.args.top.now c.args.end.now c.args.run c.parent_of-parent.result (length c.put_next.new.cells) c.parent_of-parent.ensures c.requires (omega (arith, c.put_parents.auto.cells, c.put_prev.auto.cells, c.put_next.auto.cells))

pub put_behind-requires-clause-next_in : goal.put_behind-requires-clause-next_in
put_behind-requires-clause-next_in c =
    next-in c.args.cells.now c.args.top.now c.args.end.now c.args.run c.next_of-next.result (length c.put_ahead.new.cells) c.next_of-next.ensures c.requires (omega (arith, c.put_parents.auto.cells, c.put_prev.auto.cells, c.put_next.auto.cells, c.put_ahead.auto.cells))

pub put_behind-requires-clause-parent_in : goal.put_behind-requires-clause-parent_in
put_behind-requires-clause-parent_in c =
    parent-in c.args.cells.now c.args.top.now c.args.end.now c.args.run c.parent_of-parent.result (length c.put_ahead.new.cells) c.parent_of-parent.ensures c.requires (omega (arith, c.put_parents.auto.cells, c.put_prev.auto.cells, c.put_next.auto.cells, c.put_ahead.auto.cells))

pub returns : goal.returns
returns c =
    unlinked c.args.cells.now c.put_parents.new.cells c.args.top.now c.args.end.now c.put_ahead.new.top c.put_behind.new.end c.put_behind.new.cells c.args.run c.parent_of-parent.result c.prev_of-prev.result c.next_of-next.result c.put_parents.ensures c.put_parents.auto.cells (record {
      parent_is = c.parent_of-parent.ensures;
      prev_is = c.prev_of-prev.ensures;
      next_is = c.next_of-next.ensures;
    }) (c.put_behind.ensures.cells ∙ ap (λ x. behind x c.parent_of-parent.result c.next_of-next.result c.prev_of-prev.result) (c.put_ahead.ensures.cells ∙ ap (λ x. ahead x c.parent_of-parent.result c.prev_of-prev.result c.next_of-next.result) (c.put_next.ensures ∙ ap (edit (with_next None) c.args.run.last.0) c.put_prev.ensures))) c.put_ahead.ensures.top c.put_behind.ensures.end
