use Rattle.std.proofs.Common.{◌≡◌, length}
use Rattle.flux_plain.specs.Moves.{whole}
use Rattle.flux_plain.proofs.zipper.Zipper.leave.Given as goal

abbrev pub invariant-loop-self : goal.invariant-loop-self
invariant-loop-self l = whole l.self ≡ whole l.fn.self

abbrev pub decreases-loop-self : goal.decreases-loop-self
decreases-loop-self l = length l.self.frames
