use Rattle.std.proofs.Common.{◌≡◌, take}
use Rattle.flux_types.proofs.defs.copies.Given as goal

abbrev pub invariant-loop-one : goal.invariant-loop-one
invariant-loop-one l = l.copied.items ≡ take l.one-index l.kept
