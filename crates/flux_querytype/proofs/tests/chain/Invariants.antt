use Rattle.std.proofs.Common.{◌≡◌, ◌+◌, length}
use Rattle.flux_querytype.proofs.tests.chain.Given as goal

abbrev pub invariant-loop-i : goal.invariant-loop-i
invariant-loop-i g l = length l.draft ≡ l.fn.last + 1
