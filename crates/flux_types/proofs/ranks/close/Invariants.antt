use Rattle.std.proofs.Common.{length}
use Rattle.flux_types.proofs.ranks.close.Given as goal

abbrev pub decreases-loop-member : goal.decreases-loop-member
decreases-loop-member l = length l.search.open.items
