use Rattle.std.proofs.Common.{◌<◌, ◌≤◌, ℕ, get_or}
use Rattle.flux_schema.specs.Definitions.{body_of, Leads}
use Rattle.flux_types.specs.Kept.{definitions_of}
use Rattle.flux_types.proofs.search.never_rises.Given as goal

-- no step from a name before leads to a greater rank
abbrev pub invariant-loop-index : goal.invariant-loop-index
invariant-loop-index l = (x : ℕ) → x < l.index → (y : ℕ) → Leads (body_of (definitions_of l.kept)) x y → get_or l.ranks y 0 ≤ get_or l.ranks x 0
