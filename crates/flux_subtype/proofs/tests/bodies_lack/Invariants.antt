use Rattle.std.proofs.Common.{◌≡◌, ℕ, ◌<◌, Some}
use Rattle.flux_schema.specs.Ty.{Ty}
use Rattle.flux_schema.specs.Definitions.{body_of}
use Rattle.flux_schema.specs.Labels.{Lacks}
use Rattle.flux_subtype.proofs.tests.bodies_lack.Given as goal

abbrev pub invariant-loop-index : goal.invariant-loop-index
invariant-loop-index l = (x : ℕ) (t : Ty) → x < l.index → body_of l.defs x ≡ Some t → Lacks l.label t
