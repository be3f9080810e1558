use Rattle.std.proofs.Common.{arith}
use Rattle.flux_nodes.proofs.SpareLaws.{walk-within, walk-next, walk-none}
use Rattle.flux_nodes.proofs.freeing.nth_free.Goals as goal

pub next_of-at-requires : goal.next_of-at-requires
next_of-at-requires c =
    walk-within c.args.cells.now c.args.free c.steps.at c.steps._step c.in-Some.node c.requires c.steps.invariant c.in-Some.is

pub returns-in-None : goal.returns-in-None
returns-in-None c =
    walk-none c.args.cells.now c.args.free c.steps.at c.steps._step c.args.i (omega (arith, c.steps-test.true)) c.steps.invariant c.in-None.is

pub steps-preserved : goal.steps-preserved
steps-preserved c =
    walk-next c.args.cells.now c.args.free c.steps.at c.next_of-at.result c.steps._step c.in-Some.node c.steps.invariant c.in-Some.is c.next_of-at.ensures
