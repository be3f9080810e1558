use Rattle.flux_calculus.proofs.Agree.{goes_deeper}
use Rattle.flux_calculus.proofs.laws.derivation_goes_deeper.Goals as goal

pub returns : goal.returns
returns c = goes_deeper
