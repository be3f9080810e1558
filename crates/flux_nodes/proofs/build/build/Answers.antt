use Rattle.std.proofs.Common.{◌++◌, ap, arith, ◌∙◌}
use Rattle.std.specs.Option.{option_to_list}
use Rattle.flux_nodes.proofs.BuildingLaws.{build-start, build-node, build-next, build-end, popped-none}
use Rattle.flux_nodes.proofs.build.build.Goals as goal

pub nodes-init : goal.nodes-init
nodes-init c = build-start c.requires

pub put_node-requires : goal.put_node-requires
put_node-requires c =
    build-node c.nodes.nodes.items c.pop.new.self.items c.in-Some.node c.len-i.result c.requires c.nodes.invariant (c.pop.ensures.items ∙ ap (λ r. c.pop.new.self.items ++ option_to_list r) c.in-Some.is) (omega (arith, c.len-i.ensures, c.pop.new.self.ok.0))

pub nodes-preserved : goal.nodes-preserved
nodes-preserved c =
    build-next c.nodes.nodes.items c.pop.new.self.items c.in-Some.node c.len-i.result c.requires c.nodes.invariant (c.pop.ensures.items ∙ ap (λ r. c.pop.new.self.items ++ option_to_list r) c.in-Some.is) (omega (arith, c.len-i.ensures, c.pop.new.self.ok.0)) c.put_node.auto.cells c.put_node.ensures

pub returns : goal.returns
returns c =
    build-end c.args.nodes.items c.nodes.nodes.items (popped-none c.nodes.nodes.items _ c.pop.result (omega (arith, c.nodes.nodes.ok.0)) c.pop.ensures.variant.1 c.in_default.is) c.nodes.invariant
