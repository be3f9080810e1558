use Rattle.std.proofs.Common.{arith}
use Rattle.flux_types.specs.Read.{ty_of}
use Rattle.flux_auto.proofs.Making.{begins_none, begins_next, begins_ground, begins_closed}
use Rattle.flux_auto.proofs.make.begin.Goals as goal

pub loop-index-init : goal.loop-index-init
loop-index-init c = begins_none c.args.defs.now c.in_ok-table.table c.in_ok-table.ensures

pub loop-index-preserved : goal.loop-index-preserved
loop-index-preserved c =
    let body = ty_of c.unfold.result.now in
    begins_next c.args.defs.now c.loop-index.index c.in_ok-table.table c.loop-index.table c.register.new.table body c.in_ok-table.ensures c.loop-index.invariant c.unfold.ensures.body
    (c.unfold.ensures.good.known c.loop-index.index body c.unfold.ensures.body) c.in_ok-register.ensures.grows c.in_ok-register.ensures.ok

pub complete-requires-clause-ground : goal.complete-requires-clause-ground
complete-requires-clause-ground c =
    begins_ground c.args.defs.now c.args.nullable.now c.loop-index.index c.in_ok-table.table c.loop-index.table c.requires c.in_ok-table.ensures c.loop-index.invariant (omega (arith, c.len-index-end.ensures.count, c.loop-index-test.false))

pub complete-requires-clause-older : goal.complete-requires-clause-older
complete-requires-clause-older c = begins_closed c.args.defs.now c.loop-index.index c.in_ok-table.table c.loop-index.table c.in_ok-table.ensures c.loop-index.invariant

pub returns-clause-labels : goal.returns-clause-labels
returns-clause-labels c = λ n h. c.loop-index.invariant.labels n (c.in_ok-complete.ensures.labels n h)
