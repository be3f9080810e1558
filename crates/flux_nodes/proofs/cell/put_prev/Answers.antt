use Rattle.flux_nodes.specs.Laid.{with_prev}
use Rattle.flux_nodes.proofs.LaidLaws.{set-edit}
use Rattle.flux_nodes.proofs.cell.put_prev.Goals as goal

pub returns : goal.returns
returns c = set-edit (with_prev c.args.to) c.args.at.0 c.args.cells.now c.index-cells-at.result
