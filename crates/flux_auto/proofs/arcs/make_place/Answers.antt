use Rattle.std.proofs.Common.{◌∙◌, ap, Vec, List}
use Rattle.std.specs.declared.alloc.Global.{Global}
use Rattle.flux_auto.specs.declared.arcs.Arc.{Arc}
use Rattle.flux_auto.specs.Arcs.{arcs_at}
use Rattle.flux_auto.proofs.ArcLaws.{arcs_at_push}
use Rattle.flux_auto.proofs.arcs.make_place.Goals as goal

pub loop-alloc-preserved : goal.loop-alloc-preserved
loop-alloc-preserved c =
    λ n. ap (λ (vs : List (Vec Arc Global)). arcs_at vs n) c.in_ok-push.ensures.items ∙ arcs_at_push c.loop-alloc.by_label.items c.new.result n c.new.ensures.items ∙ c.loop-alloc.invariant n
