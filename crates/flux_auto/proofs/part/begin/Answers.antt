use Rattle.std.proofs.Common.{refl}
use Rattle.flux_auto.proofs.GoingLaws.{equal}
use Rattle.flux_auto.proofs.Items.{read_is}
use Rattle.flux_auto.proofs.PartLaws.{of_one_more}
use Rattle.flux_auto.proofs.part.begin.Goals as goal

pub loop-index-preserved : goal.loop-index-preserved
loop-index-preserved c =
    let states = c.args.states.now in
    of_one_more _ states c.loop-index.news.entries c.insert.new.self.entries _ c.loop-index.index equal c.loop-index.invariant (read_is states c.loop-index.index _ _ c.loop-index-test.true refl) c.in_ok-insert.ensures.entries
