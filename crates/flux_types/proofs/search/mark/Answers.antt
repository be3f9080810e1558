use Rattle.flux_types.proofs.SearchLaws.{visits_new}
use Rattle.flux_types.proofs.search.mark.Goals as goal

pub returns-in_ok-push : goal.returns-in_ok-push
returns-in_ok-push c = visits_new c.args.index c.args.marks.now c.args.waiting.now.items c.push.new.self.items c.requires c.if-not-marks-index.true c.in_ok-push.ensures.items
