use Rattle.std.proofs.Common.{◌∙◌}
use Rattle.flux_auto.proofs.Making.{cut_rows, on_err_any}
use Rattle.flux_auto.proofs.make.extend_or_stay.Goals as goal

pub returns-then-is_err-clause-rows : goal.returns-then-is_err-clause-rows
returns-then-is_err-clause-rows c =
    let a = c.args.table.now in
    on_err_any c.extend-state.result (c.truncate-then-is_err.ensures.items ∙ cut_rows c.len-before.result a c.extend-state.new.table c.extend-state.ensures.grows c.requires.complete.ground.even (c.len-before.ensures ∙ a.cells.ok.0))
