use Rattle.std.proofs.Common.{◌≡◌, ◌+◌, ◌-◌, ℕ, length}
use Rattle.flux_auto.specs.Arcs.{arcs_at}
use Rattle.flux_auto.proofs.arcs.make_place.Given as goal

abbrev pub invariant-loop-alloc : goal.invariant-loop-alloc
invariant-loop-alloc l = (n : ℕ) → arcs_at l.by_label.items n ≡ arcs_at l.fn.by_label.items n

abbrev pub decreases-loop-alloc : goal.decreases-loop-alloc
decreases-loop-alloc l = l.number + 1 - length l.by_label.items
