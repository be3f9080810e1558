use Rattle.flux_forest.proofs.ViewLaws.{is_flat, view_is}
use Rattle.flux_plain.proofs.LayoutLaws.{seen}
use Rattle.flux_plain.proofs.MoveLaws.{focus_nodes}
use Rattle.flux_plain.proofs.zipper.Zipper.nodes.Goals as goal

pub returns-clause-flat : goal.returns-clause-flat
returns-clause-flat c =
    is_flat (focus_nodes (seen c.self.invariant.0 c.self.view_is) c.deref.result.now c.deref.ensures.value)

pub returns-clause-same : goal.returns-clause-same
returns-clause-same c =
    view_is (focus_nodes (seen c.self.invariant.0 c.self.view_is) c.deref.result.now c.deref.ensures.value)
