use Rattle.std.proofs.Common.{arith, ◌∙◌}
use Rattle.flux_auto.proofs.Closing.{fills_begins, fills_ground, fills_awaits, fills_next, fills_ends}
use Rattle.flux_auto.proofs.close.fill_all.Goals as goal

pub loop-state-init : goal.loop-state-init
loop-state-init c = fills_begins c.args.defs.now c.args.from c.len-end.result c.args.table.now c.requires.ground.even (c.len-end.ensures ∙ c.args.table.now.cells.ok.0) (omega (arith, c.requires.there, c.len-end.ensures, c.args.table.now.cells.ok.0))

pub fill-requires-clause-ground : goal.fill-requires-clause-ground
fill-requires-clause-ground c = fills_ground c.args.defs.now c.args.nullable.now c.args.from c.len-end.result c.loop-state.state c.args.table.now c.loop-state.table c.requires.ground c.loop-state.invariant (omega (arith, c.requires.begun, c.requires.there))

pub fill-requires-clause-awaits : goal.fill-requires-clause-awaits
fill-requires-clause-awaits c =
    fills_awaits c.args.defs.now c.args.from c.len-end.result c.loop-state.state c.args.table.now c.loop-state.table c.requires.fresh c.loop-state.invariant (c.len-end.ensures ∙ c.args.table.now.cells.ok.0) (omega arith) c.requires.begun c.loop-state-test.true

pub loop-state-preserved : goal.loop-state-preserved
loop-state-preserved c =
    fills_next c.args.defs.now c.args.from c.len-end.result c.loop-state.state c.args.table.now c.loop-state.table c.fill.new.table (omega arith) c.loop-state.invariant c.in_ok-fill.ensures.grows c.in_ok-fill.ensures.ok

pub returns-clause-own : goal.returns-clause-own
returns-clause-own c = fills_ends c.args.defs.now c.args.from c.len-end.result c.loop-state.state c.args.table.now c.loop-state.table c.loop-state-test.false c.loop-state.invariant
