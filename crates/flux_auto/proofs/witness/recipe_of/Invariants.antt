use Rattle.std.proofs.Common.{◌≡◌, ◌<◌, ℕ, Some, None, slice_get}
use Rattle.flux_auto.specs.declared.edge.Edge.{Edge}
use Rattle.flux_auto.specs.Witness.{recipe_by}
use Rattle.flux_auto.proofs.witness.recipe_of.Given as goal

abbrev pub invariant-loop-edge : goal.invariant-loop-edge
invariant-loop-edge l = (i : ℕ) (e : Edge) → i < l.edge-index → slice_get l.edges i ≡ Some e → recipe_by l.other l.places e ≡ None
