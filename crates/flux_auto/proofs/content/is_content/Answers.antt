use Rattle.flux_types.specs.Read.{ty_of}
use Rattle.flux_auto.proofs.Contents.{content_iff}
use Rattle.flux_auto.proofs.content.is_content.Goals as goal

pub returns-then-cell-eq0 : goal.returns-then-cell-eq0
returns-then-cell-eq0 c = content_iff c.is_same.result (ty_of c.args.cell.now.head) (ty_of c.args.ty.now) c.args.cell.now.tail c.is_same.ensures c.if-cell-eq0.true
