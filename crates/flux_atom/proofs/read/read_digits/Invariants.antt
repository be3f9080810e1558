use Rattle.std.proofs.Common.{◌≡◌, Some, take}
use Rattle.flux_atom.specs.NumberSteps.{number_from}
use Rattle.flux_atom.proofs.read.read_digits.Given as goal

abbrev pub invariant-loop-len : goal.invariant-loop-len
invariant-loop-len l = number_from (Some l.fn.first) (take l.len l.bytes) ≡ Some l.state
