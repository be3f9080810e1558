use Rattle.std.proofs.Common.{◌≡◌, ℕ, suc, ◌-◌, length}
use Rattle.flux_types.specs.Indices.{index_in}
use Rattle.flux_types.proofs.indices.make_room.Given as goal

abbrev pub invariant-loop-name : goal.invariant-loop-name
invariant-loop-name l = (n : ℕ) → index_in l.indices.items n ≡ index_in l.fn.indices.items n

abbrev pub decreases-loop-name : goal.decreases-loop-name
decreases-loop-name l = suc l.name - length l.indices.items
