use Rattle.flux_auto.proofs.ArcLaws.{adds_next}
use Rattle.flux_auto.proofs.arcs.Arcs.add_all.Goals as goal

pub loop-edge-preserved : goal.loop-edge-preserved
loop-edge-preserved c =
    adds_next c.args.self.now c.loop-edge.self c.add.new.arcs c.args.source c.args.edges.now c.loop-edge.edge-index c.edge-item.result c.edge-item.result c.loop-edge.invariant c.in_ok-add.ensures c.loop-edge-test.true c.edge-item.is
