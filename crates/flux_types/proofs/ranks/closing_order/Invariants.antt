use Rattle.std.proofs.Common.{◌<◌, All, length}
use Rattle.flux_types.proofs.ranks.closing_order.Given as goal

abbrev pub invariant-loop-name : goal.invariant-loop-name
invariant-loop-name l = All (λ x. x < length l.kept) l.order.items
