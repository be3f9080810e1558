use Rattle.std.proofs.Common.{◌∙◌, sym}
use Rattle.flux_core.proofs.GammaLaws.{found_before}
use Rattle.flux_core.proofs.gamma.last.Goals as goal

pub loop-binding-preserved : goal.loop-binding-preserved
loop-binding-preserved c =
    c.loop-binding.invariant ∙ found_before _ _ c.in-Some.binding.now c.args.var c.in-Some.ensures.steps (sym c.if-is_of.ensures)
