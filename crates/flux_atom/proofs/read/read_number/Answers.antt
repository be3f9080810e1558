use Rattle.std.proofs.Common.{rules, subst, sym, ◌+◌}
use Rattle.std.specs.Int.{w64}
use Rattle.std.specs.Int.RustNames.{FitsSigned}
use Rattle.std.proofs.lemmas.Int.{to_z-of_z}
use Rattle.std.proofs.lemmas.List.{take_rest}
use Rattle.flux_atom.specs.Spelling.{EndsDigits}
use Rattle.flux_atom.proofs.ReadLaws.{number_found, number_not}
use Rattle.flux_atom.proofs.read.read_number.Goals as goal
use Rattle.flux_atom.proofs.read.read_number.Goals.{in_default-via-in-Digits+else-ends_digits, in_default-via-in_default}

pub returns-in-Digits : goal.returns-in-Digits
returns-in-Digits c =
    let fits : FitsSigned w64 c.in-Digits.number = search rules in
    simp to_z-of_z (number_found c.args.bytes.now _ c.args.at c.read_digits-state.result.1 c.requires.begun.0 c.args.first c.read_digits-state.result.0 c.requires.begun.1 c.requires.begun.2 (take_rest c.args.bytes.now (c.args.at + 1)) c.read_digits-state.ensures.within c.read_digits-state.ensures.read c.read_digits-state.ensures.stops c.in-Digits.number c.in-Digits.is
    (subst EndsDigits (take_rest c.args.bytes.now (c.args.at + 1 + c.read_digits-state.result.1)) c.if-ends_digits.ensures))

pub returns-in_default : goal.returns-in_default
returns-in_default c =
    number_not c.args.bytes.now _ c.args.at c.read_digits-state.result.1 c.requires.begun.0 c.args.first c.read_digits-state.result.0 c.requires.begun.1 c.requires.begun.2 (take_rest c.args.bytes.now (c.args.at + 1)) c.read_digits-state.ensures.within c.read_digits-state.ensures.read c.read_digits-state.ensures.stops
    (elim c.in_default.branch [ in_default-via-in-Digits+else-ends_digits w ↦ λ z is ended. w.if-ends_digits.ensures (subst EndsDigits (sym (take_rest c.args.bytes.now (c.args.at + 1 + c.read_digits-state.result.1))) ended) | in_default-via-in_default w ↦ λ z is ended. w.in_default.not-Digits z is ])
