use Rattle.std.proofs.Common.{◌≡◌, length}
use Rattle.flux_subtype.proofs.tests.chain.Given as goal

abbrev pub invariant-loop-index : goal.invariant-loop-index
invariant-loop-index g l = length l.draft ≡ l.fn.count
