use Rattle.std.proofs.Common.{subst}
use Rattle.flux_goals.specs.Table.{AddsState}
use Rattle.flux_goals.proofs.sets.copy_with.Goals as goal

pub returns : goal.returns
returns c = subst (λ l. AddsState l c.insert.new.set.items c.args.state) c.in_ok-copied.ensures c.in_ok-insert.ensures
