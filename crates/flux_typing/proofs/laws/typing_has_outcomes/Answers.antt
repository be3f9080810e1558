use Rattle.flux_typing.proofs.QueriesTotal.{query_total}
use Rattle.flux_typing.proofs.Total.{core_total}
use Rattle.flux_typing.proofs.laws.typing_has_outcomes.Goals as goal

pub returns-clause-queries : goal.returns-clause-queries
returns-clause-queries c = λ Δ Γ q good decide listed vars. query_total Δ good decide q listed Γ vars

pub returns-clause-updates : goal.returns-clause-updates
returns-clause-updates c = λ procs Δ Γ t s good decide types spelled vars known. let o = core_total procs Δ good types decide s spelled Γ t vars known in (o.0, o.1)
