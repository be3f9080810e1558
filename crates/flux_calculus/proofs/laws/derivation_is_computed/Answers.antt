use Rattle.flux_calculus.proofs.Agree.{derivation_computed}
use Rattle.flux_calculus.proofs.laws.derivation_is_computed.Goals as goal

pub returns : goal.returns
returns c = derivation_computed
