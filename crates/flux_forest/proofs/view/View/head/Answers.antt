use Rattle.std.proofs.Common.{◌≡◌, ◌≤◌, length, arith}
use Rattle.flux_trees.specs.Hedge.{size}
use Rattle.flux_forest.specs.View.{forest_of}
use Rattle.flux_forest.proofs.ViewLaws.{length-nodes, shown, first_node, size-first_node, many, one_element}
use Rattle.flux_forest.proofs.view.View.head.Goals as goal

pub returns-then-node-nodes : goal.returns-then-node-nodes
returns-then-node-nodes c =
    let count : length c.args.self.nodes.now ≡ size (forest_of c.args.self) = length-nodes (shown c.args.self) in
    let some : 1 ≤ size (forest_of c.args.self) = omega arith in
    many (forest_of c.args.self) c.node-item.result.size (size-first_node (forest_of c.args.self) c.node-item.result (first_node (shown c.args.self) c.node-item.is) some) some (omega arith)

pub returns-in-Element : goal.returns-in-Element
returns-in-Element c =
    let count : length c.args.self.nodes.now ≡ size (forest_of c.args.self) = length-nodes (shown c.args.self) in
    one_element (forest_of c.args.self) c.node-item.result c.in-Element.name (first_node (shown c.args.self) c.node-item.is) (omega arith) (omega arith) c.in-Element.is
