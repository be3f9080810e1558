use Rattle.flux_normal.proofs.ProcedureLaws.{param_again, param_new, params_end}
use Rattle.flux_normal.proofs.procedures.check_params.Goals as goal

pub loop-param-preserved : goal.loop-param-preserved
loop-param-preserved c =
    param_new c.args.params.now c.loop-param.param-index c.param-item.result c.loop-param.seen.keys c.loop-param-test.true c.param-item.is c.loop-param.invariant _ _ _ c.number.ensures c.in_ok-remember.ensures.added c.if-not-branch.false c.in_ok-remember.ensures.keys

pub returns-then-not-branch-clause-fault : goal.returns-then-not-branch-clause-fault
returns-then-not-branch-clause-fault c =
    param_again c.args.params.now c.loop-param.param-index c.param-item.result c.loop-param.seen.keys c.loop-param-test.true c.param-item.is c.loop-param.invariant _ _ c.number.ensures c.in_ok-remember.ensures.added c.if-not-branch.true

pub returns-clause-differ : goal.returns-clause-differ
returns-clause-differ c = params_end c.args.params.now c.loop-param.param-index _ c.loop-param-test.false c.loop-param.invariant
