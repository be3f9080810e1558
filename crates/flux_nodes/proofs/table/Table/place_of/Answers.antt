use Rattle.std.proofs.Common.{inl}
use Rattle.flux_trees.specs.Hedge.{first, others}
use Rattle.flux_nodes.proofs.TableCalls.{first_node, place-is}
use Rattle.flux_nodes.proofs.table.Table.place_of.Goals as goal

pub cell-first-requires : goal.cell-first-requires
cell-first-requires c = inl (first_node c.requires)

pub returns : goal.returns
returns c at =
    place-is c.cell-first.result.now at.frames (others at.trees) (first at.trees) (c.cell-first.ensures.linked (first_node at))
