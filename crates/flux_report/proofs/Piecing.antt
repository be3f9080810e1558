-- The tokens of items are pieces that follow the items, over a table that knows their words.
use Rattle.std.proofs.Common.{◌≡◌, ◌≢◌, ◌⊎◌, inl, inr, ◌<◌, ◌+◌, ℕ, Bool, true, false, ◌||◌, Some, List, [], ◌∷◌, ◌++◌, length, slice_range, unwrap_or, refl, sym, ap, subst, ◌∙◌, append_assoc, codes, bytes_eq, if◌then◌else◌}
use Rattle.std.proofs.lemmas.Bool.{false≢true}
use Rattle.std.proofs.lemmas.List.{length-append}
use Rattle.std.proofs.lemmas.Option.{slice_get-get_or}
use Rattle.std.proofs.lemmas.Slice.Eq.{bytes_eq-Decides}
use Rattle.flux_atom.specs.declared.atom.AtomKind.{AtomKind}
use Rattle.flux_atom.specs.declared.atom.AtomKind.TheVariants as kind
use Rattle.flux_atom.specs.Reserved.{is_reserved}
use Rattle.flux_grammar.specs.declared.lexeme.Lexeme.{Lexeme}
use Rattle.flux_grammar.specs.declared.lexeme.Lexeme.TheVariants.{Sign, Word, Soft, Quoted}
use Rattle.flux_grammar.specs.declared.lexeme.Piece.{Piece}
use Rattle.flux_grammar.specs.declared.lexeme.Soft.{Soft as SoftWord}
use Rattle.flux_grammar.specs.declared.lexeme.Soft.TheVariants as soft
use Rattle.flux_grammar.specs.declared.token.TokenKind.{TokenKind}
use Rattle.flux_grammar.specs.declared.token.TokenKind.TheVariants as token
use Rattle.flux_grammar.specs.Lexemes.{NamesText, IsSoft, soft_text, IsLexeme, a_soft, a_word, a_quoted, a_sign, ArePieces, no_pieces, more_pieces}
use Rattle.flux_grammar.specs.States.{state, takes}
use Rattle.flux_schema.specs.TypeText.{name_text, kind_text}
use Rattle.flux_report.proofs.Items.{Item, mark, label, typed, any_word, name, Means, is_mark, is_label, is_string_label, is_bool_label, is_int_label, is_child_label, is_quoted, is_typed, is_any, is_name, is_child_name, Follows, over, on}
use Rattle.flux_report.proofs.Spelled.{wants_quotes, item_kind, item_text, bytes_of, tokens_at}
use Rattle.flux_report.proofs.Fitting.{IsFit, AreSpelled}
use Rattle.flux_report.proofs.Learning.{Kept, Knows, AreKnown, part_between}

-- ---- which word a text is

abbrev Softly : List ℕ → Type 0
Softly text = IsSoft text ⊎ ¬ (IsSoft text)

one_soft : (text : List ℕ) (s : SoftWord) → (bytes_eq text (soft_text s) ≡ true → ⊥) → text ≡ soft_text s → ⊥
one_soft text s never e = never ((bytes_eq-Decides text (soft_text s)).1 e)

tested : (text : List ℕ) (s : SoftWord) (b : Bool) → bytes_eq text (soft_text s) ≡ b → (text ≡ soft_text s) ⊎ (text ≢ soft_text s)
tested text s true e = inl ((bytes_eq-Decides text (soft_text s)).0 e)
tested text s false e = inr (one_soft text s (λ f. false≢true (sym e ∙ f)))

test : (text : List ℕ) (s : SoftWord) → (text ≡ soft_text s) ⊎ (text ≢ soft_text s)
test text s = tested text s (bytes_eq text (soft_text s)) refl

no_soft : (text : List ℕ) → text ≢ codes "string" → text ≢ codes "bool" → text ≢ codes "int" → text ≢ codes "child" → text ≢ codes "any" → (s : SoftWord) → text ≡ soft_text s → ⊥
no_soft text a b c d e soft.StringWord f = a f
no_soft text a b c d e soft.BoolWord f = b f
no_soft text a b c d e soft.IntWord f = c f
no_soft text a b c d e soft.ChildWord f = d f
no_soft text a b c d e soft.AnyWord f = e f

softly : (text : List ℕ) → Softly text
softly text =
    by (test text soft.StringWord) (test text soft.BoolWord) (test text soft.IntWord) (test text soft.ChildWord) (test text soft.AnyWord)
  where
    by : (text ≡ soft_text soft.StringWord) ⊎ (text ≢ soft_text soft.StringWord) → (text ≡ soft_text soft.BoolWord) ⊎ (text ≢ soft_text soft.BoolWord) → (text ≡ soft_text soft.IntWord) ⊎ (text ≢ soft_text soft.IntWord) → (text ≡ soft_text soft.ChildWord) ⊎ (text ≢ soft_text soft.ChildWord) → (text ≡ soft_text soft.AnyWord) ⊎ (text ≢ soft_text soft.AnyWord) → Softly text
    by (inl p) b c d e = inl (soft.StringWord, p)
    by (inr a) (inl p) c d e = inl (soft.BoolWord, p)
    by (inr a) (inr b) (inl p) d e = inl (soft.IntWord, p)
    by (inr a) (inr b) (inr c) (inl p) e = inl (soft.ChildWord, p)
    by (inr a) (inr b) (inr c) (inr d) (inl p) = inl (soft.AnyWord, p)
    by (inr a) (inr b) (inr c) (inr d) (inr e) = inr (λ s. no_soft text a b c d e s.0 s.1)

-- ---- what an item is to the grammar

name_at : (texts : List (List ℕ)) (n : ℕ) → n < length texts → NamesText texts n (name_text texts n)
name_at texts n below =
    let at = slice_get-get_or texts n [] below in
    at ∙ ap Some (sym (ap (λ o. unwrap_or o []) at))

module _ (new : List (List ℕ)) where
  abbrev Meant : Item → TokenKind → List ℕ → Type 0
  Meant i k text = (l : Lexeme) × IsLexeme new k text l × Means i l

  soft_label : (n : ℕ) (text : List ℕ) (s : SoftWord) → bytes_eq text (codes "any") ≡ false → text ≡ soft_text s → NamesText new n text → Meant (label n) token.Word text
  soft_label n text soft.StringWord other e at = (Soft soft.StringWord n, a_soft soft.StringWord e at, is_string_label n)
  soft_label n text soft.BoolWord other e at = (Soft soft.BoolWord n, a_soft soft.BoolWord e at, is_bool_label n)
  soft_label n text soft.IntWord other e at = (Soft soft.IntWord n, a_soft soft.IntWord e at, is_int_label n)
  soft_label n text soft.ChildWord other e at = (Soft soft.ChildWord n, a_soft soft.ChildWord e at, is_child_label n)
  soft_label n text soft.AnyWord other e at = absurd (false≢true (sym other ∙ (bytes_eq-Decides text (codes "any")).1 e))

  plain_label : (n : ℕ) (text : List ℕ) → is_reserved text ≡ false → bytes_eq text (codes "any") ≡ false → Softly text → NamesText new n text → Meant (label n) token.Word text
  plain_label n text free other (inl s) at = soft_label n text s.0 other s.1 at
  plain_label n text free other (inr never) at = (Word n, a_word free never at, is_label n)

  neither : (a b : Bool) → (a || b) ≡ false → (a ≡ false) × (b ≡ false)
  neither true b e = absurd (false≢true (sym e))
  neither false b e = (refl, e)

  label_meant : (n : ℕ) (text : List ℕ) (b : Bool) → wants_quotes text ≡ b → NamesText new n text → Meant (label n) (if b then token.Quoted else token.Word) (if b then codes "'" ++ text ++ codes "'" else text)
  label_meant n text true e at = (Quoted n, a_quoted text refl at, is_quoted n)
  label_meant n text false e at =
      let free = neither (is_reserved text) (bytes_eq text (codes "any")) e in
      plain_label n text free.0 free.1 (softly text) at

  soft_name : (n : ℕ) (text : List ℕ) (s : SoftWord) → text ≢ codes "string" → text ≢ codes "bool" → text ≢ codes "int" → text ≢ codes "any" → text ≡ soft_text s → NamesText new n text → Meant (name n) token.Word text
  soft_name n text soft.StringWord a b c d e at = absurd (a e)
  soft_name n text soft.BoolWord a b c d e at = absurd (b e)
  soft_name n text soft.IntWord a b c d e at = absurd (c e)
  soft_name n text soft.ChildWord a b c d e at = (Soft soft.ChildWord n, a_soft soft.ChildWord e at, is_child_name n)
  soft_name n text soft.AnyWord a b c d e at = absurd (d e)

  name_meant : (n : ℕ) (text : List ℕ) → is_reserved text ≡ false → text ≢ codes "string" → text ≢ codes "bool" → text ≢ codes "int" → text ≢ codes "any" → Softly text → NamesText new n text → Meant (name n) token.Word text
  name_meant n text free a b c d (inl s) at = soft_name n text s.0 a b c d s.1 at
  name_meant n text free a b c d (inr never) at = (Word n, a_word free never at, is_name n)

  kind_meant : (k : AtomKind) (n : ℕ) → NamesText new n (kind_text k) → Meant (typed k) token.Word (kind_text k)
  kind_meant kind.Bool n at = (Soft soft.BoolWord n, a_soft soft.BoolWord refl at, is_typed kind.Bool n)
  kind_meant kind.Text n at = (Soft soft.StringWord n, a_soft soft.StringWord refl at, is_typed kind.Text n)
  kind_meant kind.Int n at = (Soft soft.IntWord n, a_soft soft.IntWord refl at, is_typed kind.Int n)

  module _ (texts : List (List ℕ)) (kept : Kept texts new) where
    meant : (i : Item) → IsFit texts i → Knows new i → Meant i (item_kind texts i) (item_text texts i)
    meant (mark s) fit has = (Sign s, a_sign s refl, is_mark s)
    meant (label n) fit has =
        label_meant n (name_text texts n) (wants_quotes (name_text texts n)) refl (kept n (name_text texts n) (name_at texts n fit.0))
    meant (typed k) fit has = kind_meant k has.0 has.1
    meant any_word fit has = (Soft soft.AnyWord has.0, a_soft soft.AnyWord refl has.1, is_any has.0)
    meant (name n) fit has =
        let text = name_text texts n in
        let type_name = fit.1 in
        name_meant n text type_name.1 type_name.2 type_name.3 type_name.4 type_name.5 (softly text) (kept n text (name_at texts n fit.0))

    module _ (whole : List ℕ) where
      pub record Pieced (at : ℕ) (is : List Item) : Type 0 where
        pub pieces : List Piece
        pub are : ArePieces new whole (tokens_at texts at is) pieces
        pub follow : (e : ℕ) → (f : ℕ) × Follows is (state e pieces) (state f [])

      pub pieced : (is : List Item) (before : List ℕ) (at : ℕ) → length before ≡ at → whole ≡ before ++ bytes_of texts is → AreSpelled texts is → AreKnown new is → Pieced at is
      pieced [] before at e split s k = record { pieces = []; are = no_pieces; follow = λ e. (e, over) }
      pieced (i ∷ is) before at e split s k =
          let text = item_text texts i in
          let same : slice_range whole at (at + length text) ≡ text = ap (λ l. slice_range l at (at + length text)) split ∙ part_between before text (bytes_of texts is) at e in
          let m = meant i s.0 k.0 in
          let rest = pieced is (before ++ text) (at + length text) (length-append before text ∙ ap (λ k. k + length text) e) (split ∙ sym (append_assoc before text (bytes_of texts is))) s.2 k.1 in
          let x : Piece = record { lexeme = m.0; span = record { from = at; to = at + length text } } in
          record {
            pieces = x ∷ rest.pieces;
            are = more_pieces refl (subst (λ l. IsLexeme new (item_kind texts i) l m.0) (sym same) m.1) rest.are;
            follow = λ e. (let r = rest.follow (at + length text) in (r.0, on m.2 (takes refl) r.1));
          }
