use Rattle.std.proofs.Common.{inl, inr}
use Rattle.flux_nodes.proofs.TableCalls.{table_of}
use Rattle.flux_nodes.proofs.PartLaws.{document_part, unlinked_part, document-copied, unlinked-copied}
use Rattle.flux_nodes.proofs.table.Table.copy_run.Goals as goal

pub copy_trees-requires : goal.copy_trees-requires
copy_trees-requires c = elim c.requires [
  | inl at ↦ document_part c.self.inside.cells.items c.as_slice.result.now c.self.inside.top c.self.inside.end c.self.inside.free c.args.self.now c.args.run c.as_slice.ensures.value (table_of c.self.invariant c.self.view_is) at
  | inr at ↦ unlinked_part c.self.inside.cells.items c.as_slice.result.now c.self.inside.top c.self.inside.end c.self.inside.free c.args.self.now c.args.run at.0 c.as_slice.ensures.value (table_of c.self.invariant c.self.view_is) at.1
]

pub returns-clause-document : goal.returns-clause-document
returns-clause-document c at =
    document-copied c.self.inside.cells.items c.as_slice.result.now c.self.inside.top c.self.inside.end c.self.inside.free c.args.self.now c.args.run c.as_slice.ensures.value (table_of c.self.invariant c.self.view_is) at c.copy_trees.result c.copy_trees.ensures

pub returns-clause-unlinked : goal.returns-clause-unlinked
returns-clause-unlinked c i at =
    unlinked-copied c.self.inside.cells.items c.as_slice.result.now c.self.inside.top c.self.inside.end c.self.inside.free c.args.self.now c.args.run i c.as_slice.ensures.value (table_of c.self.invariant c.self.view_is) at c.copy_trees.result c.copy_trees.ensures
