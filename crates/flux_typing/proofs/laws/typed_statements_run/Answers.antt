use Rattle.flux_typing.proofs.Running.{typed_run}
use Rattle.flux_typing.proofs.laws.typed_statements_run.Goals as goal

pub returns : goal.returns
returns c = typed_run
