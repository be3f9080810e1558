use Rattle.std.proofs.Common.{arith}
use Rattle.flux_nodes.proofs.RootLaws.{way-start, way-within, way-next, way-end, way-over}
use Rattle.flux_nodes.proofs.root.root_of.Goals as goal

pub nodes-init : goal.nodes-init
nodes-init c = way-start c.args.cells.now c.args.node.0

pub before-requires : goal.before-requires
before-requires c =
    way-within c.args.cells.now c.args.node.0 c.nodes.at.0 c.nodes._step c.requires c.nodes.invariant

pub returns-in-None : goal.returns-in-None
returns-in-None c =
    way-end c.args.cells.now c.args.node.0 c.nodes.at.0 c.nodes._step c.before-in-nodes.result c.nodes.invariant c.before-in-nodes.ensures c.in-None.is

pub nodes-preserved : goal.nodes-preserved
nodes-preserved c =
    way-next c.args.cells.now c.args.node.0 c.nodes.at.0 c.nodes._step c.before-in-nodes.result c.in-Some.next c.nodes.invariant c.before-in-nodes.ensures c.in-Some.is

pub returns : goal.returns
returns c x =
    absurd (way-over c.args.cells.now c.args.node.0 c.nodes.at.0 c.nodes._step c.nodes.invariant (omega (arith, c.nodes-test.false)) x)
