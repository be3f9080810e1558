use Rattle.flux_typing.proofs.Accepting.{accepted_run}
use Rattle.flux_typing.proofs.laws.accepted_scripts_run.Goals as goal

pub returns : goal.returns
returns c = accepted_run
