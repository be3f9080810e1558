use Rattle.std.proofs.Common.{ap, ◌∙◌}
use Rattle.std.proofs.Math.ListN.{set}
use Rattle.flux_nodes.specs.Kept.{free_cell}
use Rattle.flux_nodes.proofs.LaidLaws.{set-edit}
use Rattle.flux_nodes.proofs.cell.put_free.Goals as goal

pub returns : goal.returns
returns c =
    ap (set c.args.cells.now c.args.at.0) c.free.ensures ∙ set-edit (λ _. free_cell c.args.next) c.args.at.0 c.args.cells.now (free_cell c.args.next)
