use Rattle.flux_auto.proofs.PartLaws.{more_then, next_renamed}
use Rattle.flux_auto.proofs.part.renamed_all.Goals as goal

pub loop-edge-preserved : goal.loop-edge-preserved
loop-edge-preserved c =
    let was = c.loop-edge.numbers.olds.items in
    let now = c.renamed.new.numbers.olds.items in
    record {
      right = c.in_ok-renamed.ensures.right;
      more = more_then c.args.numbers.now.olds.items was now c.loop-edge.invariant.more c.in_ok-renamed.ensures.more;
      are = next_renamed was now c.args.edges.now c.loop-edge.all.items c.push.new.self.items c.loop-edge.edge-index c.edge-item.result c.edge-item.result c.in_ok-renamed.field-0 c.loop-edge.invariant.are c.in_ok-renamed.ensures.more c.in_ok-renamed.ensures.is c.loop-edge-test.true c.edge-item.is c.in_ok-push.ensures.items;
    }
