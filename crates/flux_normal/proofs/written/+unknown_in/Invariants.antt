use Rattle.std.proofs.Common.{◌≡◌, [], take}
use Rattle.flux_schema.specs.Definitions.{declared_names}
use Rattle.flux_normal.specs.Written.{unknowns_among}
use Rattle.flux_normal.proofs.written.+unknown_in.Given as goal

-- no part so far mentions an unknown name
abbrev pub invariant-unknown_among-loop-part : goal.invariant-unknown_among-loop-part
invariant-unknown_among-loop-part l =
    unknowns_among (declared_names l.known) (take l.part-index l.parts) ≡ []
