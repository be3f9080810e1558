-- How the items of a type are spelled over a table, and that their text is the type's.
use Rattle.std.proofs.Common.{◌≡◌, ◌+◌, ℕ, Bool, true, false, ◌||◌, Option, Some, None, List, [], ◌∷◌, ◌++◌, length, slice_get, refl, sym, ap, ap₂, ◌∙◌, append_assoc, append-nil, codes, bytes_eq, if◌then◌else◌}
use Rattle.flux_atom.specs.Reserved.{is_reserved}
use Rattle.flux_grammar.specs.declared.lexeme.Sign.TheVariants as sign
use Rattle.flux_grammar.specs.declared.token.Token.{Token}
use Rattle.flux_grammar.specs.declared.token.TokenKind.{TokenKind}
use Rattle.flux_grammar.specs.declared.token.TokenKind.TheVariants.{Word, Quoted, Sign}
use Rattle.flux_grammar.specs.Lexemes.{sign_text}
use Rattle.flux_grammar.specs.Tokens.{token_at}
use Rattle.flux_schema.specs.Definitions.{Definition, Definitions}
use Rattle.flux_schema.specs.Ty.{Ty, empty, atom, element, any_element, seq, alt, star, named}
use Rattle.flux_schema.specs.TypeText.{name_text, quoted, kind_text, definition_text, is_choice, is_empty, is_list, enclosed, text_of}
use Rattle.flux_report.proofs.Items.{Item, mark, label, typed, any_word, name, grouped, bracketed, named_items, items_of}

-- a label that has quotes
abbrev pub wants_quotes : List ℕ → Bool
wants_quotes text = is_reserved text || bytes_eq text (codes "any")

module _ (texts : List (List ℕ)) where
  abbrev pub item_kind : Item → TokenKind
  item_kind (mark s) = Sign
  item_kind (label n) = if wants_quotes (name_text texts n) then Quoted else Word
  item_kind (typed k) = Word
  item_kind any_word = Word
  item_kind (name n) = Word

  abbrev pub item_text : Item → List ℕ
  item_text (mark s) = sign_text s
  item_text (label n) = quoted (name_text texts n)
  item_text (typed k) = kind_text k
  item_text any_word = codes "any"
  item_text (name n) = name_text texts n

  abbrev pub bytes_of : List Item → List ℕ
  bytes_of [] = []
  bytes_of (i ∷ is) = item_text i ++ bytes_of is

  -- the tokens of items whose text begins at the place
  abbrev pub tokens_at : ℕ → List Item → List Token
  tokens_at at [] = []
  tokens_at at (i ∷ is) =
      token_at (item_kind i) at (at + length (item_text i)) ∷ tokens_at (at + length (item_text i)) is

  pub bytes-append : (is js : List Item) → bytes_of (is ++ js) ≡ bytes_of is ++ bytes_of js
  bytes-append [] js = refl
  bytes-append (i ∷ is) js =
      ap (λ l. item_text i ++ l) (bytes-append is js) ∙ sym (append_assoc (item_text i) (bytes_of is) (bytes_of js))

  -- ---- the text of a type

  grouped_text : (b : Bool) (is : List Item) (text : List ℕ) → text ≡ bytes_of is → enclosed b text ≡ bytes_of (grouped b is)
  grouped_text true is text e =
      ap (λ l. codes "(" ++ (l ++ codes ")")) e ∙ ap (λ l. codes "(" ++ l) (sym (bytes-append is (mark sign.Close ∷ [])))
  grouped_text false is text e = e

  bracketed_text : (b : Bool) (is : List Item) (text : List ℕ) → text ≡ bytes_of is → codes "[" ++ ((if b then [] else text) ++ codes "]") ≡ bytes_of (bracketed b is)
  bracketed_text true is text e = refl
  bracketed_text false is text e =
      ap (λ l. codes "[" ++ (l ++ codes "]")) e ∙ ap (λ l. codes "[" ++ l) (sym (bytes-append is (mark sign.CloseSquare ∷ [])))

  named_text : (defs : Definitions) (x : ℕ) (o : Option Definition) → slice_get defs x ≡ o → definition_text texts defs x ≡ bytes_of (named_items o)
  named_text defs x None e = rw e refl
  named_text defs x (Some d) e = rw e (sym (append-nil (name_text texts d.name)))

  pub text_is : (defs : Definitions) (t : Ty) → text_of texts defs t ≡ bytes_of (items_of defs t)
  text_is defs empty = refl
  text_is defs (atom k) = sym (append-nil (kind_text k))
  text_is defs (element n t) =
      ap (λ l. quoted (name_text texts n) ++ l) (bracketed_text (is_empty t) (items_of defs t) (text_of texts defs t) (text_is defs t))
  text_is defs (any_element t) =
      ap (λ l. codes "any" ++ l) (bracketed_text (is_empty t) (items_of defs t) (text_of texts defs t) (text_is defs t))
  text_is defs (seq t u) =
      append_assoc (enclosed (is_choice t) (text_of texts defs t)) (codes ",") (enclosed (is_choice u) (text_of texts defs u))
      ∙ ap₂ (λ k l. k ++ (codes "," ++ l)) (grouped_text (is_choice t) (items_of defs t) (text_of texts defs t) (text_is defs t)) (grouped_text (is_choice u) (items_of defs u) (text_of texts defs u) (text_is defs u))
      ∙ sym (bytes-append (grouped (is_choice t) (items_of defs t)) (mark sign.Comma ∷ grouped (is_choice u) (items_of defs u)))
  text_is defs (alt t u) =
      append_assoc (text_of texts defs t) (codes "|") (text_of texts defs u)
      ∙ ap₂ (λ k l. k ++ (codes "|" ++ l)) (text_is defs t) (text_is defs u)
      ∙ sym (bytes-append (items_of defs t) (mark sign.Bar ∷ items_of defs u))
  text_is defs (star t) =
      ap (λ l. l ++ codes "*") (grouped_text (is_list t) (items_of defs t) (text_of texts defs t) (text_is defs t))
      ∙ sym (bytes-append (grouped (is_list t) (items_of defs t)) (mark sign.Star ∷ []))
  text_is defs (named x) = named_text defs x (slice_get defs x) refl
