use Rattle.flux_nodes.specs.Laid.{with_kind}
use Rattle.flux_nodes.specs.declared.cell.Kind.TheVariants.{Elem}
use Rattle.flux_nodes.proofs.LaidLaws.{set-edit}
use Rattle.flux_nodes.proofs.cell.put_label.Goals as goal

pub returns : goal.returns
returns c = set-edit (with_kind (Elem c.args.name)) c.args.at.0 c.args.cells.now c.index-cells-at.result
