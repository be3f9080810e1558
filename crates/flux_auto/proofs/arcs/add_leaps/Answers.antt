use Rattle.flux_auto.proofs.ArcLaws.{along_next}
use Rattle.flux_auto.proofs.arcs.add_leaps.Goals as goal

pub loop-arc-preserved : goal.loop-arc-preserved
loop-arc-preserved c =
    along_next c.args.content.now c.args.leaps.now.items c.loop-arc.leaps.items c.add_leap_along.new.leaps.items c.args.arcs.now c.loop-arc.arc-index _ c.loop-arc-test.true c.loop-arc.invariant c.in_ok-add_leap_along.ensures
