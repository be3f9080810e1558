use Rattle.flux_forest.proofs.ViewLaws.{shown, length-nodes}
use Rattle.flux_forest.proofs.view.View.count.Goals as goal

pub returns : goal.returns
returns c = length-nodes (shown c.args.self)
