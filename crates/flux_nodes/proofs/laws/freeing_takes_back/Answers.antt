use Rattle.flux_nodes.proofs.SupplyLaws.{freeing_takes_back}
use Rattle.flux_nodes.proofs.laws.freeing_takes_back.Goals as goal

pub returns : goal.returns
returns c = freeing_takes_back
