use Rattle.std.proofs.Common.{◌≡◌, ℕ, ◌<◌, ◌≤◌, [], length, get_or}
use Rattle.flux_schema.specs.Definitions.{declared_names}
use Rattle.flux_grammar.specs.declared.tree.TypeText.{TypeText}
use Rattle.flux_normal.specs.Written.{join_of, unknowns}
use Rattle.flux_normal.proofs.Makings.{IsMadeSoFar}
use Rattle.flux_normal.proofs.written.+made.Given as goal

abbrev pub invariant-made_list-loop-index : goal.invariant-made_list-loop-index
invariant-made_list-loop-index l = record {
  within : l.index ≤ length l.parts;
  declared : (i : ℕ) (t : TypeText) → i < length l.parts → t ≡ get_or l.parts i t → unknowns (declared_names l.known) t ≡ [];
  so_far : IsMadeSoFar (declared_names l.known) (join_of l.join) l.parts l.index l.whole;
}

abbrev pub decreases-made_list-loop-index : goal.decreases-made_list-loop-index
decreases-made_list-loop-index l = l.index
