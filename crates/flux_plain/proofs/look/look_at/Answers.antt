use Rattle.std.proofs.Common.{◌≡◌, ◌≤◌, length, arith, sym}
use Rattle.flux_trees.specs.Hedge.{size}
use Rattle.flux_forest.specs.Flat.{hedge_of}
use Rattle.flux_forest.proofs.ViewLaws.{AreNodes, length-nodes, first_node, size-first_node, many, one_element}
use Rattle.flux_plain.proofs.LookLaws.{looks_many, looks_element}
use Rattle.flux_plain.proofs.look.look_at.Goals as goal

pub returns-then-node-nodes : goal.returns-then-node-nodes
returns-then-node-nodes c =
    let are : AreNodes (hedge_of c.args.nodes.now) c.args.nodes.now = record { same = sym c.requires } in
    let count : length c.args.nodes.now ≡ size (hedge_of c.args.nodes.now) = length-nodes are in
    let some : 1 ≤ size (hedge_of c.args.nodes.now) = omega arith in
    looks_many (hedge_of c.args.nodes.now) (many (hedge_of c.args.nodes.now) c.node-item.result.size (size-first_node (hedge_of c.args.nodes.now) c.node-item.result (first_node are c.node-item.is) some) some (omega arith))

pub returns-in-Element : goal.returns-in-Element
returns-in-Element c =
    let are : AreNodes (hedge_of c.args.nodes.now) c.args.nodes.now = record { same = sym c.requires } in
    let count : length c.args.nodes.now ≡ size (hedge_of c.args.nodes.now) = length-nodes are in
    looks_element (hedge_of c.args.nodes.now) c.in-Element.name (one_element (hedge_of c.args.nodes.now) c.node-item.result c.in-Element.name (first_node are c.node-item.is) (omega arith) (omega arith) c.in-Element.is)
