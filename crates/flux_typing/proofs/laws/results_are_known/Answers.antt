use Rattle.std.proofs.Common.{length, sym, subst}
use Rattle.flux_schema.specs.Definitions.{IsKnown}
use Rattle.flux_typing.proofs.Typed.{succeeds}
use Rattle.flux_typing.proofs.Kept.{kept}
use Rattle.flux_typing.proofs.Names.{core_below}
use Rattle.flux_typing.proofs.Lacking.{typed_lacks}
use Rattle.flux_typing.proofs.laws.results_are_known.Goals as goal

pub returns-clause-names : goal.returns-clause-names
returns-clause-names c = λ procs Δ Γ t s u Δ' known types vars below d.
    let known_before : IsKnown Δ u = core_below procs (length Δ) (λ p q e. (types p q e).result) known (succeeds procs d) vars below in
    subst (λ z. IsKnown z u) (sym (kept (succeeds procs d))) known_before

pub returns-clause-labels : goal.returns-clause-labels
returns-clause-labels c = typed_lacks
