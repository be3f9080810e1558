use Rattle.std.proofs.Common.{arith}
use Rattle.std.proofs.Math.ListN.{get_or}
use Rattle.flux_trees.specs.Hedge.{nil}
use Rattle.flux_nodes.proofs.TableCalls.{node-within, table_of, cell-is}
use Rattle.flux_nodes.proofs.table.Table.cell.Goals as goal

pub index-requires : goal.index-requires
index-requires c =
    omega (arith, c.self.inside.cells.ok.0, node-within c.self.inside.cells.items c.self.inside.top c.self.inside.end c.self.inside.free c.self.inside.made c.args.self.now c.args.node c.self.invariant c.self.view_is c.requires)

pub returns-clause-linked : goal.returns-clause-linked
returns-clause-linked c at =
    cell-is c.self.inside.cells.items c.args.self.now.document c.args.node c.index.result.now c.index.ensures (table_of c.self.invariant c.self.view_is).doc.laid at

pub returns-clause-unlinked : goal.returns-clause-unlinked
returns-clause-unlinked c i at =
    cell-is c.self.inside.cells.items (get_or c.args.self.now.unlinked i nil) c.args.node c.index.result.now c.index.ensures ((table_of c.self.invariant c.self.view_is).runs i).laid at
