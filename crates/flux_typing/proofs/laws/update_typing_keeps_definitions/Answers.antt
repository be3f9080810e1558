use Rattle.flux_typing.proofs.Typed.{succeeds}
use Rattle.flux_typing.proofs.Kept.{kept}
use Rattle.flux_typing.proofs.laws.update_typing_keeps_definitions.Goals as goal

pub returns : goal.returns
returns c = λ procs Δ Γ t s u Δ' d. kept (succeeds procs d)
