use Rattle.std.proofs.Common.{arith}
use Rattle.flux_plain.proofs.NextLaws.{first_le}
use Rattle.flux_plain.proofs.next.first_size.Goals as goal

pub overflow_sub-result : goal.overflow_sub-result
overflow_sub-result c = omega (arith, first_le c.requires.2, c.requires.1)

pub bounds-right-right : goal.bounds-right-right
bounds-right-right c = omega (arith, first_le c.requires.2, c.requires.1)

pub bounds-right-right-else-count-eq0 : goal.bounds-right-right-else-count-eq0
bounds-right-right-else-count-eq0 c = omega (arith, first_le c.requires.2, c.requires.1)
