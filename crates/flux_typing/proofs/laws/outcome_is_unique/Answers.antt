use Rattle.flux_typing.proofs.OneOutcome.{once}
use Rattle.flux_typing.proofs.Accepting.{once_accepted}
use Rattle.flux_typing.proofs.laws.outcome_is_unique.Goals as goal

pub returns-clause-typing : goal.returns-clause-typing
returns-clause-typing c = λ procs Δ Γ t s o p d e. once d e

pub returns-clause-acceptance : goal.returns-clause-acceptance
returns-clause-acceptance c = λ script o p a b. once_accepted a b
