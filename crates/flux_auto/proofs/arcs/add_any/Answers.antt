use Rattle.std.proofs.Common.{refl}
use Rattle.flux_auto.proofs.ArcLaws.{adds_any}
use Rattle.flux_auto.proofs.arcs.add_any.Goals as goal

pub returns : goal.returns
returns c = adds_any c.args.arcs.now _ c.args.source c.args.content c.args.next c.of-sources.result c.of-sources.ensures c.in_ok-push_arc.ensures refl refl refl refl refl
