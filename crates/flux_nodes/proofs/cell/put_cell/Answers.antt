use Rattle.flux_nodes.proofs.LaidLaws.{set-edit}
use Rattle.flux_nodes.proofs.cell.put_cell.Goals as goal

pub returns : goal.returns
returns c = set-edit (λ _. c.args.cell) c.args.at.0 c.args.cells.now c.args.cell
