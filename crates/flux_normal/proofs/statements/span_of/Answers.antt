use Rattle.flux_normal.proofs.FormLaws.{spans}
use Rattle.flux_normal.proofs.statements.span_of.Goals as goal

pub returns-in-len2-up : goal.returns-in-len2-up
returns-in-len2-up c =
    spans c.args.stmts.now c.first-item.result c.last-item.result c.span-in-len2-up.result c.span-in-len2-up-2.result c.in-len2-up.len_at_least c.first-item.is c.last-item.is c.span-in-len2-up.ensures c.span-in-len2-up-2.ensures
