use Rattle.std.proofs.Common.{ap, sym, ◌∙◌}
use Rattle.flux_trees.specs.Draft.{done, outer}
use Rattle.flux_trees.proofs.DraftLaws.{whole_is, IsWhole-depth}
use Rattle.flux_forest.proofs.ViewLaws.{AreNodes, whole_nodes, view_is, is_flat}
use Rattle.flux_forest.proofs.forest.Forest.view.Goals as goal
use Rattle.flux_forest.proofs.forest.Forest.view.Goals.{After-as_slice}

nodes : (c : After-as_slice) → AreNodes (outer c.args.self.now) c.as_slice.result.now
nodes c = record {
  same = c.as_slice.ensures.value ∙ (whole_nodes c.args.self.now c.self.invariant c.self.view_is c.requires).same;
}

pub invariant_of-result : goal.invariant_of-result
invariant_of-result c = record { is_flat = is_flat (nodes c) }

pub returns : goal.returns
returns c =
    ap done (view_is (nodes (goal.at.returns c).After-as_slice)) ∙ sym (whole_is c.args.self.now (IsWhole-depth c.args.self.now c.requires))
