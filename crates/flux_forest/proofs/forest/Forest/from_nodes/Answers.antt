use Rattle.flux_forest.proofs.ViewLaws.{draft_of-nodes, is_draft}
use Rattle.flux_forest.proofs.forest.Forest.from_nodes.Goals as goal

pub invariant_of-result : goal.invariant_of-result
invariant_of-result c = is_draft c.args.nodes.items _ c.requires c.new-begun.ensures.items

pub returns : goal.returns
returns c = draft_of-nodes c.args.nodes.items c.requires
