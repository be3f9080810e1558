use Rattle.std.proofs.Common.{◌∙◌, sym}
use Rattle.flux_auto.proofs.SetLaws.{told-none}
use Rattle.flux_subtype.proofs.Turning.{silent_next}
use Rattle.flux_subtype.proofs.search.is_silent.Goals as goal

pub loop-leap-init : goal.loop-leap-init
loop-leap-init c = λ n. told-none n

pub loop-leap-preserved : goal.loop-leap-preserved
loop-leap-preserved c = silent_next c.args.leaps.now c.args.rest.now c.loop-leap.leap-index _ c.loop-leap.invariant c.loop-leap-test.true (sym c.has.ensures ∙ c.if-has.false)
