use Rattle.std.proofs.Common.{arith}
use Rattle.flux_normal.proofs.PathLaws.{steps_begin, step_taken, steps_end}
use Rattle.flux_normal.proofs.levels.check_steps.Goals as goal

pub loop-step-init : goal.loop-step-init
loop-step-init c = record {
  counted = omega arith;
  so_far = steps_begin c.args.steps.now c.args.levels _;
}

pub loop-step-preserved : goal.loop-step-preserved
loop-step-preserved c = record {
  counted = let lt = c.loop-step-test.true in let count = c.loop-step.invariant.counted in omega (arith, lt, count);
  so_far = step_taken c.args.steps.now c.args.levels c.past.result c.loop-step.step-index c.loop-step.behind _ _ _ c.step-item.result c.loop-step-test.true c.step-item.is c.loop-step.invariant.counted c.past.ensures c.check_query_step-found.ensures c.loop-step.invariant.so_far;
}

pub returns : goal.returns
returns c = steps_end c.args.steps.now c.args.levels c.loop-step.step-index _ _ c.loop-step-test.false c.loop-step.invariant.so_far
