use Rattle.std.proofs.Common.{◌≡◌, ◌+◌, length}
use Rattle.flux_types.proofs.tests.chain_down.Given as goal

abbrev pub invariant-loop-i : goal.invariant-loop-i
invariant-loop-i g l = length l.draft ≡ l.fn.count + 1
