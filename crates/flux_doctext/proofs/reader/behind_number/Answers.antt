use Rattle.std.proofs.Common.{rules}
use Rattle.std.specs.Int.{w64}
use Rattle.std.specs.Int.RustNames.{FitsSigned}
use Rattle.std.proofs.lemmas.Int.{to_z-of_z}
use Rattle.flux_doctext.proofs.Taken.{number_follows}
use Rattle.flux_doctext.proofs.reader.behind_number.Goals as goal

pub returns-in_ok-push_atom-in-Digits : goal.returns-in_ok-push_atom-in-Digits
returns-in_ok-push_atom-in-Digits c = λ names.
    let fits : FitsSigned w64 c.in-Digits.value = search rules in
    let pushed = simp to_z-of_z at c.in_ok-push_atom-in-Digits.ensures.ok in
    number_follows names c.args.number c.in-Digits.value c.args.sign c.args.forest.now c.push_atom.new.self c.behind_tree.new.forest c.behind_tree.result c.in-Digits.is pushed (c.behind_tree.ensures names)
