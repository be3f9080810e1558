use Rattle.std.proofs.Common.{◌≡◌, false, [], ◌∷◌, ◌++◌, map, refl, subst, sym, ap, ◌∙◌, string_bytes, bytes_eq, is_some}
use Rattle.std.proofs.lemmas.Bool.{false≢true}
use Rattle.std.specs.List.{list_any}
use Rattle.flux_atom.specs.Names.{IsTable}
use Rattle.flux_atom.proofs.Tables.{IsTable-push, with_text-held, with_text-absent, list_any_seen, slice_get_seen, slice_get_position, texts_added}
use Rattle.flux_atom.proofs.names.Names.find_or_add.Goals as goal

pub returns-in-Some-clause-place : goal.returns-in-Some-clause-place
returns-in-Some-clause-place c = slice_get_position string_bytes c.args.text.now c.self.inside.texts.keys c.args.self.now c.self.view_is c.in-Some.index (sym c.get_index_of.ensures.index ∙ c.in-Some.is)

pub returns-in-Some-clause-added : goal.returns-in-Some-clause-added
returns-in-Some-clause-added c = with_text-held c.args.self.now c.args.text.now (list_any_seen string_bytes c.args.text.now c.self.inside.texts.keys c.args.self.now c.self.view_is ∙ sym c.get_index_of.ensures.found ∙ ap is_some c.in-Some.is)

pub returns-in_err-key-clause-held : goal.returns-in_err-key-clause-held
returns-in_err-key-clause-held c = λ held.
    let absent : list_any (bytes_eq c.args.text.now) c.args.self.now ≡ false = list_any_seen string_bytes c.args.text.now c.self.inside.texts.keys c.args.self.now c.self.view_is ∙ sym c.get_index_of.ensures.found ∙ ap is_some c.in_default.is in
    absurd (false≢true (sym absent ∙ held))

pub returns-in_err-index-clause-held : goal.returns-in_err-index-clause-held
returns-in_err-index-clause-held c = λ held.
    let absent : list_any (bytes_eq c.args.text.now) c.args.self.now ≡ false = list_any_seen string_bytes c.args.text.now c.self.inside.texts.keys c.args.self.now c.self.view_is ∙ sym c.get_index_of.ensures.found ∙ ap is_some c.in_default.is in
    absurd (false≢true (sym absent ∙ held))

-- the table lacked the text
absent : (c : goal.In_ok-index) → list_any (bytes_eq c.args.text.now) c.args.self.now ≡ false
absent c = list_any_seen string_bytes c.args.text.now c.self.inside.texts.keys c.args.self.now c.self.view_is ∙ sym c.get_index_of.ensures.found ∙ ap is_some c.in_default.is

-- and now has it last
added : (c : goal.In_ok-index) → map string_bytes c.insert_full.new.self.keys ≡ c.args.self.now ++ c.args.text.now ∷ []
added c = texts_added string_bytes c.args.text.now c.self.inside.texts.keys c.args.self.now c.self.view_is c.in_ok-key.key c.insert_full.new.self.keys c.in_ok-key.ensures.ok (absent c) c.in_ok-index.ensures.keys

grown : (c : goal.In_ok-index) → IsTable (map string_bytes c.insert_full.new.self.keys)
grown c = subst IsTable (sym (added c)) (IsTable-push c.args.self.now c.args.text.now (subst IsTable c.self.view_is c.self.invariant) c.requires.name (absent c))

pub invariant_of-self-2 : goal.invariant_of-self-2
invariant_of-self-2 c = grown c

pub returns-clause-place : goal.returns-clause-place
returns-clause-place c =
    let stored = c.in_ok-index.ensures.stored in
    slice_get_seen string_bytes c.args.text.now c.insert_full.new.self.keys (map string_bytes c.insert_full.new.self.keys) refl c.in_ok-index.index stored.0 stored.1 (ap (λ t. bytes_eq t (string_bytes stored.0)) (sym c.in_ok-key.ensures.ok) ∙ stored.2)

pub returns-clause-added : goal.returns-clause-added
returns-clause-added c = added c ∙ with_text-absent c.args.self.now c.args.text.now (absent c)

pub returns-clause-table : goal.returns-clause-table
returns-clause-table c = grown c
