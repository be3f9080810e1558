use Rattle.std.proofs.Common.{◌≡◌, Some, refl, subst, arith}
use Rattle.flux_grammar.specs.Nesting.{core_level}
use Rattle.flux_grammar.specs.NormalStatements.{on_steps}
use Rattle.flux_normal.specs.Levels.{Finds}
use Rattle.flux_normal.proofs.PathLaws.{path_taken, path_stops, path_ends}
use Rattle.flux_normal.proofs.levels.check_path.Goals as goal

pub loop-step-preserved : goal.loop-step-preserved
loop-step-preserved c = record {
  counted = let lt = c.loop-step-test.true in let count = c.loop-step.invariant.counted in omega (arith, lt, count);
  so_far = path_taken c.as_slice-steps.result.now c.args.levels c.loop-step.levels c.loop-step.step-index c.loop-step.behind c.step-item.result _ c.loop-step-test.true c.step-item.is c.loop-step.invariant.counted refl c.loop-step.invariant.so_far c.check_step.result c.in-Ok.left c.in-Ok.is c.check_step.ensures;
}

pub returns-in-Err : goal.returns-in-Err
returns-in-Err c = λ s. subst (λ ss. Finds core_level (on_steps ss s) c.args.levels (Some c.in-Err.place)) c.as_slice-steps.ensures
    (path_stops c.as_slice-steps.result.now c.args.levels c.loop-step.levels c.loop-step.step-index c.loop-step.behind c.step-item.result _ c.loop-step-test.true c.step-item.is c.loop-step.invariant.counted refl c.loop-step.invariant.so_far c.check_step.result c.in-Err.place c.in-Err.is c.check_step.ensures s)

pub returns : goal.returns
returns c = λ s o found. subst (λ ss. Finds core_level (on_steps ss s) c.args.levels o) c.as_slice-steps.ensures
    (path_ends c.as_slice-steps.result.now c.args.levels c.loop-step.levels c.loop-step.step-index c.loop-step-test.false c.loop-step.invariant.so_far s o found)
