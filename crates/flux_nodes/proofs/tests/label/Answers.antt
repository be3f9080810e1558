use Rattle.std.proofs.Common.{inl}
use Rattle.flux_nodes.proofs.TableCalls.{first_node}
use Rattle.flux_nodes.proofs.NodeLaws.{element-of}
use Rattle.flux_nodes.proofs.tests.label.Goals as goal

pub cell-requires : goal.cell-requires
cell-requires c = inl (first_node c.requires)

pub returns-in-Elem : goal.returns-in-Elem
returns-in-Elem c name e =
    let at = first_node c.requires in
    element-of c.args.table.now.document c.args.run.first c.cell.result.now.kind _ at (c.cell.ensures.linked at).kind_is c.in-Elem.is
