use Rattle.std.proofs.Common.{◌∙◌, sym}
use Rattle.flux_auto.proofs.SetLaws.{told-none}
use Rattle.flux_auto.proofs.ArcLaws.{leaps_next}
use Rattle.flux_auto.proofs.sets.fired.Goals as goal

pub loop-leap-init : goal.loop-leap-init
loop-leap-init c = c.in_ok-set.ensures ∙ sym (told-none c.args.states)

pub loop-leap-preserved : goal.loop-leap-preserved
loop-leap-preserved c =
    leaps_next c.args.rest.now c.loop-leap.set c.mark_by_leap.new.marks c.args.states c.args.leaps.now c.loop-leap.leap-index _ c.loop-leap-test.true c.loop-leap.invariant c.mark_by_leap.ensures
