use Rattle.std.proofs.Common.{sym, subst, ◌∙◌}
use Rattle.flux_nodes.specs.Tables.{IsRunOf}
use Rattle.flux_nodes.proofs.TableCalls.{table_of, no_last-nil, run-of-top}
use Rattle.flux_nodes.proofs.table.Table.top.Goals as goal

pub returns-in_err-last : goal.returns-in_err-last
returns-in_err-last c =
    subst (λ r. IsRunOf r c.args.self.now.document) (sym c.from_residual-in_err-last.ensures) (no_last-nil c.args.self.now.document (sym (c.in_err-last.was {u = tt}) ∙ (table_of c.self.invariant c.self.view_is).doc.last_is))

pub returns : goal.returns
returns c =
    run-of-top c.self.inside.cells.items c.self.inside.top c.self.inside.end c.args.self.now.document c.in_ok-first.first c.in_ok-last.last (table_of c.self.invariant c.self.view_is).doc (c.in_ok-first.was {u = tt}) (c.in_ok-last.was {u = tt})
