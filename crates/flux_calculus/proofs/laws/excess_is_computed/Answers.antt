use Rattle.flux_calculus.proofs.Agree.{excess_computed}
use Rattle.flux_calculus.proofs.laws.excess_is_computed.Goals as goal

pub returns : goal.returns
returns c = excess_computed
