use Rattle.std.proofs.Common.{refl, arith, length}
use Rattle.flux_types.specs.Read.{ty_of}
use Rattle.flux_auto.proofs.Growing.{grows_less, grows_same, grows_set}
use Rattle.flux_auto.proofs.Reading.{null_iff}
use Rattle.flux_auto.proofs.Closing.{awaits_head, awaits_ready, awaits_labels, awaits_below, filled_by}
use Rattle.flux_auto.proofs.close.fill.Goals as goal

pub returns-in_err-head-clause-grows : goal.returns-in_err-head-clause-grows
returns-in_err-head-clause-grows c = grows_same c.args.state c.args.table.now (omega (arith, c.requires.ground.even, awaits_below c.args.defs.now _ c.args.state c.args.table.now.cells.items c.requires.awaits))

pub linear-requires-clause-ready : goal.linear-requires-clause-ready
linear-requires-clause-ready c =
    awaits_ready c.args.defs.now _ c.args.state c.args.table.now.cells.items c.requires.awaits c.in_ok-head.head (awaits_head c.args.defs.now _ c.args.state c.args.table.now.cells.items c.requires.awaits c.index.result.now c.in_ok-head.head c.index.ensures c.in_ok-head.ensures)

pub linear-requires-clause-labels : goal.linear-requires-clause-labels
linear-requires-clause-labels c =
    awaits_labels c.args.defs.now _ c.args.state c.args.table.now.cells.items c.requires.awaits c.in_ok-head.head (awaits_head c.args.defs.now _ c.args.state c.args.table.now.cells.items c.requires.awaits c.index.result.now c.in_ok-head.head c.index.ensures c.in_ok-head.ensures)

pub returns-in_err-edges-clause-grows : goal.returns-in_err-edges-clause-grows
returns-in_err-edges-clause-grows c =
    grows_less (length c.args.table.now.rows.items) c.args.state c.args.table.now c.linear.new.table (omega (arith, c.requires.ground.even, awaits_below c.args.defs.now _ c.args.state c.args.table.now.cells.items c.requires.awaits)) c.in_err-edges.ensures.grows

pub set_row-requires : goal.set_row-requires
set_row-requires c = omega (arith, c.in_ok-edges.ensures.grows.longer, c.requires.ground.even, awaits_below c.args.defs.now _ c.args.state c.args.table.now.cells.items c.requires.awaits)

pub returns-clause-grows : goal.returns-clause-grows
returns-clause-grows c =
    grows_set c.args.state c.args.state c.args.table.now c.linear.new.table c.set_row.new.table c.is_nullable.result c.in_ok-edges.edges.items (omega arith)
    (grows_less (length c.args.table.now.rows.items) c.args.state c.args.table.now c.linear.new.table (omega (arith, c.requires.ground.even, awaits_below c.args.defs.now _ c.args.state c.args.table.now.cells.items c.requires.awaits)) c.in_ok-edges.ensures.grows) c.set_row.ensures

pub returns-clause-ok : goal.returns-clause-ok
returns-clause-ok c =
    let defs = c.args.defs.now in
    let a = c.args.table.now in
    let head = ty_of c.in_ok-head.head in
    filled_by defs a c.linear.new.table c.set_row.new.table c.args.state c.is_nullable.result c.in_ok-edges.edges.items c.in_ok-edges.edges.items c.requires.awaits c.requires.ground.even head
    (awaits_head defs _ c.args.state a.cells.items c.requires.awaits c.index.result.now c.in_ok-head.head c.index.ensures c.in_ok-head.ensures)
    c.in_ok-edges.ensures.grows c.in_ok-edges.ensures.ok c.set_row.ensures refl (null_iff defs c.args.nullable.now c.requires.ground.tells c.is_nullable.result head c.is_nullable.ensures)
