use Rattle.std.proofs.Common.{arith, ◌-◌, length, subst, sym, ◌∙◌, Some}
use Rattle.std.specs.List.{slice_get}
use Rattle.std.proofs.lemmas.Option.{slice_get_within}
use Rattle.flux_nodes.specs.declared.cell.Cell.{Cell}
use Rattle.flux_nodes.specs.Laid.{edit, with_next}
use Rattle.flux_nodes.specs.Kept.{IsTable, IsWithin}
use Rattle.flux_nodes.specs.Tables.{after_free}
use Rattle.flux_nodes.proofs.LaidLaws.{edit-length}
use Rattle.flux_nodes.proofs.SeenLaws.{one_cell}
use Rattle.flux_nodes.proofs.FreeCalls.{loop-begin, loop-turn, loop-some, loop-next, loop-over, loop-smaller, free-table}
use Rattle.flux_nodes.proofs.freeing.free_run.Goals as goal

pub nodes-init : goal.nodes-init
nodes-init c = loop-begin c.args.cells.now c.args.free.now c.args.run c.args.made.now

pub free_one-at-requires-clause-at_in : goal.free_one-at-requires-clause-at_in
free_one-at-requires-clause-at_in c =
    let t = loop-turn c.args.cells.now c.nodes.cells c.args.free.now c.args.run c.in-Some.node c.nodes.at c.nodes.tail.0 c.nodes.made c.args.made.now c.in-Some.is c.nodes.invariant c.requires in
    slice_get_within c.nodes.cells c.in-Some.node.0 t.cell t.is

pub free_one-at-requires-clause-last_in : goal.free_one-at-requires-clause-last_in
free_one-at-requires-clause-last_in c z g =
    let t = loop-turn c.args.cells.now c.nodes.cells c.args.free.now c.args.run c.in-Some.node c.nodes.at c.nodes.tail.0 c.nodes.made c.args.made.now c.in-Some.is c.nodes.invariant c.requires in
    subst (λ (x : Cell). IsWithin x.last (length c.nodes.cells)) (one_cell t.cell z (slice_get c.nodes.cells c.in-Some.node.0) t.is g) t.last_in

pub nodes-smaller : goal.nodes-smaller
nodes-smaller c =
    loop-smaller c.args.cells.now c.nodes.cells c.free_one-at.new.cells c.args.free.now c.args.run c.in-Some.node c.nodes.at c.free_one-at.result c.nodes.tail.0 c.nodes.made c.args.made.now c.in-Some.is c.nodes.invariant c.free_one-at.ensures c.requires

pub overflow_sub-made : goal.overflow_sub-made
overflow_sub-made c = omega (arith, loop-some c.args.cells.now c.nodes.cells c.args.free.now c.args.run c.in-Some.node c.nodes.at c.nodes.tail.0 c.nodes.made c.args.made.now c.in-Some.is c.nodes.invariant c.requires)

pub nodes-preserved : goal.nodes-preserved
nodes-preserved c =
    loop-next c.args.cells.now c.nodes.cells c.free_one-at.new.cells c.args.free.now c.args.run c.in-Some.node c.nodes.at c.free_one-at.result c.nodes.tail.0 c.nodes.made (c.nodes.made - 1) c.args.made.now c.in-Some.is (omega (arith, loop-some c.args.cells.now c.nodes.cells c.args.free.now c.args.run c.in-Some.node c.nodes.at c.nodes.tail.0 c.nodes.made c.args.made.now c.in-Some.is c.nodes.invariant c.requires)) c.nodes.invariant c.free_one-at.ensures

pub put_next-requires : goal.put_next-requires
put_next-requires c =
    (loop-over c.args.cells.now c.nodes.cells c.args.free.now c.args.run c.nodes.at c.nodes.tail.0 c.nodes.made c.args.made.now c.in_default.is c.nodes.invariant c.requires).1

pub returns-clause-cells : goal.returns-clause-cells
returns-clause-cells c h =
    let done = loop-over c.args.cells.now c.nodes.cells c.args.free.now c.args.run c.nodes.at c.nodes.tail.0 c.nodes.made c.args.made.now c.in_default.is c.nodes.invariant h in
    subst (λ cs. IsTable cs h.top h.end (Some c.args.run.first) (after_free h.meaning c.args.run)) (sym c.put_next.ensures) (free-table c.args.cells.now (edit (with_next c.args.free.now) c.nodes.tail.0 c.nodes.cells) h.top h.end c.args.free.now h.meaning c.args.run h.table h.loose (edit-length (with_next c.args.free.now) c.nodes.tail.0 c.nodes.cells ∙ c.nodes.auto.cells) done.0)

pub returns-clause-made : goal.returns-clause-made
returns-clause-made c h =
    (loop-over c.args.cells.now c.nodes.cells c.args.free.now c.args.run c.nodes.at c.nodes.tail.0 c.nodes.made c.args.made.now c.in_default.is c.nodes.invariant h).2
