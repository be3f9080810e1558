use Rattle.std.proofs.Common.{◌≡◌, ℕ, take, replicate, false}
use Rattle.flux_auto.specs.Arcs.{fired}
use Rattle.flux_subtype.proofs.search.is_silent.Given as goal

abbrev pub invariant-loop-leap : goal.invariant-loop-leap
invariant-loop-leap l = (n : ℕ) → fired n (take l.leap-index l.leaps) l.rest ≡ replicate n false
