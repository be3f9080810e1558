use Rattle.std.proofs.Common.{sym, ap, ◌∙◌, Some}
use Rattle.std.specs.Prelude.{string_bytes}
use Rattle.std.proofs.lemmas.Option.{slice_get_within}
use Rattle.flux_atom.specs.Names.{with_text}
use Rattle.flux_doctext.specs.Reading.{truth_of}
use Rattle.flux_doctext.proofs.Taken.{atom_follows, label_follows}
use Rattle.flux_doctext.proofs.reader.behind_name.Goals as goal

pub returns-in-Some-clause-next : goal.returns-in-Some-clause-next
returns-in-Some-clause-next c =
    let is = sym (ap truth_of c.as_str.ensures.value) ∙ c.in-Some.ensures.truth in
    atom_follows c.args.names.now (string_bytes c.args.text) _ c.args.sign c.args.forest.now c.push_atom.new.self c.behind_tree.new.forest c.behind_tree.result is c.in_ok-push_atom.ensures.ok (c.behind_tree.ensures c.args.names.now)

pub returns-in-Space-clause-next : goal.returns-in-Space-clause-next
returns-in-Space-clause-next c =
    let none = sym (ap truth_of c.as_str.ensures.value) ∙ c.in_default.ensures.other in
    let same = c.as_str-in-Space.ensures.value in
    let at = c.in_ok-name-in-Space.ensures.place ∙ ap Some same in
    label_follows c.args.names.now c.intern.new.self (string_bytes c.args.text) c.in_ok-name-in-Space.name _ c.args.sign c.args.forest.now c.behind_label.new.forest c.behind_label.result none (c.in_ok-name-in-Space.ensures.added ∙ ap (with_text c.args.names.now) same) at (c.behind_label.ensures c.intern.new.self c.in_ok-name-in-Space.ensures.table (slice_get_within c.intern.new.self c.in_ok-name-in-Space.name (string_bytes c.args.text) at))
