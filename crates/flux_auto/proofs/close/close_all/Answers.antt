use Rattle.std.proofs.Common.{arith}
use Rattle.flux_auto.proofs.Closing.{closes_next}
use Rattle.flux_auto.proofs.close.close_all.Goals as goal

pub close-requires-clause-own : goal.close-requires-clause-own
close-requires-clause-own c = λ r e. c.loop-state.invariant.own c.loop-state.state r (omega arith) e

pub loop-state-preserved : goal.loop-state-preserved
loop-state-preserved c = closes_next c.args.defs.now c.args.from c.loop-state.state c.args.table.now c.loop-state.table c.close.new.table (omega arith) c.loop-state.invariant c.in_ok-close.ensures.ok
