use Rattle.std.proofs.Common.{◌∙◌, sym}
use Rattle.flux_query.proofs.EnvLaws.{found_before, whole_before}
use Rattle.flux_query.proofs.env.last.Goals as goal

pub loop-binding-preserved : goal.loop-binding-preserved
loop-binding-preserved c =
    let steps = c.in-Some.ensures.steps in
    (whole_before _ _ c.in-Some.binding.now steps c.loop-binding.invariant.0, c.loop-binding.invariant.1 ∙ found_before _ _ c.in-Some.binding.now c.args.var steps (sym c.if-binds.ensures))
