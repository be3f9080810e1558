-- A table that learns names keeps those that it has, and has those that it was shown.
use Rattle.std.proofs.Common.{◌≡◌, ◌+◌, ◌-◌, ℕ, zero, suc, Bool, true, false, Option, Some, None, List, [], ◌∷◌, ◌++◌, length, take, drop, slice_range, refl, sym, ap, ap₂, subst, ◌∙◌, arith, codes, bytes_eq, if◌then◌else◌, append_assoc}
use Rattle.std.proofs.Math.Seq.{take-append_seam, drop-append_seam}
use Rattle.std.proofs.lemmas.List.{length-append}
use Rattle.std.proofs.lemmas.List.Folds.{Any-from_list_any}
use Rattle.std.proofs.lemmas.Option.{slice_get-get_or}
use Rattle.std.proofs.lemmas.Slice.Eq.{bytes_eq-Decides}
use Rattle.std.specs.List.{list_any}
use Rattle.flux_atom.specs.declared.atom.AtomKind.{AtomKind}
use Rattle.flux_atom.specs.declared.atom.AtomKind.TheVariants as kind
use Rattle.flux_atom.specs.Names.{with_text}
use Rattle.flux_grammar.specs.declared.token.Token.{Token}
use Rattle.flux_grammar.specs.Lexemes.{NamesText}
use Rattle.flux_schema.specs.TypeText.{kind_text}
use Rattle.flux_syntax.specs.Learnt.{learnt, with_name, written_name}
use Rattle.flux_report.proofs.Items.{Item, mark, label, typed, any_word, name}
use Rattle.flux_report.proofs.Spelled.{item_kind, item_text, bytes_of, tokens_at}

-- ---- names that are kept

abbrev pub Kept : List (List ℕ) → List (List ℕ) → Type 0
Kept old new = (n : ℕ) (text : List ℕ) → NamesText old n text → NamesText new n text

kept_front : (old more : List (List ℕ)) → Kept old (old ++ more)
kept_front [] more n text at = absurd cc
kept_front (t ∷ ts) more zero text at = at
kept_front (t ∷ ts) more (suc n) text at = kept_front ts more n text at

kept_if : (old more : List (List ℕ)) (b : Bool) → Kept old (if b then old else old ++ more)
kept_if old more true n text at = at
kept_if old more false n text at = kept_front old more n text at

kept_name : (old : List (List ℕ)) (shown : Option (List ℕ)) → Kept old (with_name old shown)
kept_name old None n text at = at
kept_name old (Some shown) n text at = kept_if old (shown ∷ []) (list_any (bytes_eq shown) old) n text at

pub kept_learnt : (bytes : List ℕ) (ts : List Token) (old : List (List ℕ)) → Kept old (learnt bytes ts old)
kept_learnt bytes [] old n text at = at
kept_learnt bytes (t ∷ ts) old n text at =
    let shown = written_name t.kind (slice_range bytes t.span.from t.span.to) in
    kept_learnt bytes ts (with_name old shown) n text (kept_name old shown n text at)

-- ---- names that are shown

abbrev Has : List (List ℕ) → List ℕ → Type 0
Has texts text = (n : ℕ) × NamesText texts n text

last_of : (texts : List (List ℕ)) (text : List ℕ) → Has (texts ++ text ∷ []) text
last_of [] text = (0, refl)
last_of (t ∷ ts) text = let at = last_of ts text in (suc at.0, at.1)

held_or_last : (texts : List (List ℕ)) (text : List ℕ) (b : Bool) → list_any (bytes_eq text) texts ≡ b → Has (if b then texts else texts ++ text ∷ []) text
held_or_last texts text true e =
    let found = Any-from_list_any (bytes_eq text) texts e in
    let same : text ≡ found.1 = (bytes_eq-Decides text found.1).0 found.4 in
    (found.0, slice_get-get_or texts found.0 found.1 found.2 ∙ ap Some (found.3 ∙ sym same))
held_or_last texts text false e = last_of texts text

has_shown : (texts : List (List ℕ)) (text : List ℕ) → Has (with_text texts text) text
has_shown texts text = held_or_last texts text (list_any (bytes_eq text) texts) refl

-- the table has the word of a kind, and `any`
abbrev pub Knows : List (List ℕ) → Item → Type 0
Knows texts (mark s) = Unit {0}
Knows texts (label n) = Unit {0}
Knows texts (typed k) = Has texts (kind_text k)
Knows texts any_word = Has texts (codes "any")
Knows texts (name n) = Unit {0}

abbrev pub AreKnown : List (List ℕ) → List Item → Type 0
AreKnown texts [] = Unit {0}
AreKnown texts (i ∷ is) = Knows texts i × AreKnown texts is

knows_kept : (old new : List (List ℕ)) → Kept old new → (i : Item) → Knows old i → Knows new i
knows_kept old new kept (mark s) h = tt
knows_kept old new kept (label n) h = tt
knows_kept old new kept (typed k) h = (h.0, kept h.0 (kind_text k) h.1)
knows_kept old new kept any_word h = (h.0, kept h.0 (codes "any") h.1)
knows_kept old new kept (name n) h = tt

knows_kind : (texts : List (List ℕ)) (old : List (List ℕ)) (k : AtomKind) → Has (with_name old (written_name (item_kind texts (typed k)) (item_text texts (typed k)))) (kind_text k)
knows_kind texts old kind.Bool = has_shown old (codes "bool")
knows_kind texts old kind.Text = has_shown old (codes "string")
knows_kind texts old kind.Int = has_shown old (codes "int")

knows_shown : (texts : List (List ℕ)) (old : List (List ℕ)) (i : Item) → Knows (with_name old (written_name (item_kind texts i) (item_text texts i))) i
knows_shown texts old (mark s) = tt
knows_shown texts old (label n) = tt
knows_shown texts old (typed k) = knows_kind texts old k
knows_shown texts old any_word = has_shown old (codes "any")
knows_shown texts old (name n) = tt

-- a part of the bytes
pub part_between : (before text rest : List ℕ) (at : ℕ) → length before ≡ at → slice_range (before ++ (text ++ rest)) at (at + length text) ≡ text
part_between before text rest at e =
    let many : at + length text - at ≡ length text = omega arith in
    ap₂ take many (ap (λ k. drop k (before ++ (text ++ rest))) (sym e) ∙ drop-append_seam before (text ++ rest))
    ∙ take-append_seam text rest

module _ (texts : List (List ℕ)) (whole : List ℕ) where
  -- the table that was shown the tokens of the items knows these
  pub known : (is : List Item) (old : List (List ℕ)) (before : List ℕ) (at : ℕ) → length before ≡ at → whole ≡ before ++ bytes_of texts is → AreKnown (learnt whole (tokens_at texts at is) old) is
  known [] old before at e split = tt
  known (i ∷ is) old before at e split =
      let text = item_text texts i in
      let here = slice_range whole at (at + length text) in
      let same : here ≡ text = ap (λ l. slice_range l at (at + length text)) split ∙ part_between before text (bytes_of texts is) at e in
      let old' = with_name old (written_name (item_kind texts i) here) in
      let shown : Knows old' i = subst (λ l. Knows (with_name old (written_name (item_kind texts i) l)) i) (sym same) (knows_shown texts old i) in (
        knows_kept old' (learnt whole (tokens_at texts (at + length text) is) old') (kept_learnt whole (tokens_at texts (at + length text) is) old') i shown,
        known is old' (before ++ text) (at + length text) (length-append before text ∙ ap (λ k. k + length text) e) (split ∙ sym (append_assoc before text (bytes_of texts is))),
      )
