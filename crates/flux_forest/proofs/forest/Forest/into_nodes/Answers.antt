use Rattle.std.proofs.Common.{ap, sym, ◌∙◌}
use Rattle.flux_trees.specs.Draft.{done}
use Rattle.flux_trees.proofs.DraftLaws.{whole_is, IsWhole-depth}
use Rattle.flux_forest.proofs.ViewLaws.{whole_nodes, view_is, is_flat}
use Rattle.flux_forest.proofs.forest.Forest.into_nodes.Goals as goal

pub returns-clause-flat : goal.returns-clause-flat
returns-clause-flat c = is_flat (whole_nodes c.args.self c.self.invariant c.self.view_is c.requires)

pub returns-clause-same : goal.returns-clause-same
returns-clause-same c =
    ap done (view_is (whole_nodes c.args.self c.self.invariant c.self.view_is c.requires)) ∙ sym (whole_is c.args.self (IsWhole-depth c.args.self c.requires))
