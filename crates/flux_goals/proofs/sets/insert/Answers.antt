use Rattle.std.proofs.Common.{sym, subst}
use Rattle.flux_goals.specs.Table.{AddsState}
use Rattle.flux_goals.proofs.AfterLaws.{has_insert}
use Rattle.flux_goals.proofs.sets.insert.Goals as goal

pub returns-in_ok-insert-in-Err : goal.returns-in_ok-insert-in-Err
returns-in_ok-insert-in-Err c = subst (λ l. AddsState c.args.set.now.items l c.args.state) (sym c.in_ok-insert-in-Err.ensures.items) (has_insert c.args.set.now.items c.in-Err.place c.args.state)
