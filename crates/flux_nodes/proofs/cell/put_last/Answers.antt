use Rattle.flux_nodes.specs.Laid.{with_last}
use Rattle.flux_nodes.proofs.LaidLaws.{set-edit}
use Rattle.flux_nodes.proofs.cell.put_last.Goals as goal

pub returns : goal.returns
returns c = set-edit (with_last c.args.to) c.args.at.0 c.args.cells.now c.index-cells-at.result
