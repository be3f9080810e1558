-- Items whose texts are tokens, one behind the other, and that those of a type are.
use Rattle.std.proofs.Common.{◌≡◌, ◌<◌, ◌+◌, ℕ, Bool, true, false, Option, Some, None, List, [], ◌∷◌, ◌++◌, All, length, slice_get, refl, sym, ap, subst, ◌∙◌, append_assoc, codes, if◌then◌else◌, IsSomeAnd, option_map}
use Rattle.std.proofs.lemmas.List.Elements.{All-contains, All-from_recursion}
use Rattle.std.proofs.lemmas.Option.{slice_get-map, slice_get_within, get_or_from_slice_get}
use Rattle.flux_atom.specs.declared.atom.AtomKind.{AtomKind}
use Rattle.flux_atom.specs.declared.atom.AtomKind.TheVariants as kind
use Rattle.flux_atom.specs.Names.{IsName, IsLabel, EndsName, continues_name}
use Rattle.flux_grammar.specs.declared.lexeme.Sign.{Sign as Mark}
use Rattle.flux_grammar.specs.declared.lexeme.Sign.TheVariants as sign
use Rattle.flux_grammar.specs.declared.token.TokenKind.TheVariants.{Word, Quoted}
use Rattle.flux_grammar.specs.Tokens.{IsToken, EndsToken, Lexed, ended, token}
use Rattle.flux_schema.specs.Definitions.{Definition, Definitions, names_of}
use Rattle.flux_schema.specs.Ty.{Ty, empty, atom, element, any_element, seq, alt, star, named}
use Rattle.flux_schema.specs.TypeText.{IsWritable, name_text, kind_text, is_choice, is_empty, is_list}
use Rattle.flux_report.specs.ReadsBack.{IsTypeName, HasLabels}
use Rattle.flux_report.proofs.Items.{Item, mark, label, typed, any_word, name, grouped, bracketed, named_items, items_of}
use Rattle.flux_report.proofs.SingleSigns.{Single, open_single, close_single, open_square_single, close_square_single, comma_single, star_single, bar_single}
use Rattle.flux_report.proofs.Spelled.{wants_quotes, item_kind, item_text, bytes_of, tokens_at}

kind_name : (k : AtomKind) → IsName (kind_text k)
kind_name kind.Bool = (refl, All-from_recursion (λ b. continues_name b ≡ true) (codes "ool") (refl, (refl, (refl, tt))))
kind_name kind.Text = (refl, All-from_recursion (λ b. continues_name b ≡ true) (codes "tring") (refl, (refl, (refl, (refl, (refl, tt))))))
kind_name kind.Int = (refl, All-from_recursion (λ b. continues_name b ≡ true) (codes "nt") (refl, (refl, tt)))

any_name : IsName (codes "any")
any_name = (refl, All-from_recursion (λ b. continues_name b ≡ true) (codes "ny") (refl, (refl, tt)))

module _ (texts : List (List ℕ)) where
  -- the item can be written
  abbrev pub IsFit : Item → Type 0
  IsFit (mark s) = Single s
  IsFit (label n) = (n < length texts) × IsLabel (name_text texts n)
  IsFit (typed k) = Unit {0}
  IsFit any_word = Unit {0}
  IsFit (name n) = (n < length texts) × IsTypeName (name_text texts n)

  -- each can be written, and ends before the next
  abbrev pub AreSpelled : List Item → Type 0
  AreSpelled [] = Unit {0}
  AreSpelled (i ∷ is) =
      IsFit i × EndsToken (item_kind texts i) (item_text texts i) (bytes_of texts is) × AreSpelled is

  label_token : (text : List ℕ) (b : Bool) → IsLabel text → IsToken (if b then Quoted else Word) (if b then codes "'" ++ text ++ codes "'" else text)
  label_token text true is = (text, is, refl)
  label_token text false is = is.0

  fit_token : (i : Item) → IsFit i → IsToken (item_kind texts i) (item_text texts i)
  fit_token (mark s) fit = fit.is
  fit_token (label n) fit = label_token (name_text texts n) (wants_quotes (name_text texts n)) fit.1
  fit_token (typed k) fit = kind_name k
  fit_token any_word fit = any_name
  fit_token (name n) fit = fit.1.0

  -- the bytes of such items are their tokens
  pub lexed : (at : ℕ) (is : List Item) → AreSpelled is → Lexed at (bytes_of texts is) (tokens_at texts at is)
  lexed at [] s = ended
  lexed at (i ∷ is) s =
      token (item_kind texts i) (item_text texts i) (bytes_of texts is) (fit_token i s.0) s.1 refl (lexed (at + length (item_text texts i)) is s.2)

  -- ---- before items whose text ends a name

  abbrev Segment : List Item → Type 0
  Segment is = (rest : List Item) → AreSpelled rest → EndsName (bytes_of texts rest) → AreSpelled (is ++ rest)

  sign_before : (s : Mark) → Single s → (is : List Item) → AreSpelled is → AreSpelled (mark s ∷ is)
  sign_before s single is r = (single, single.ends (bytes_of texts is), r)

  nothing : Segment []
  nothing rest r e = r

  begun : (s : Mark) → Single s → (is : List Item) → Segment is → Segment (mark s ∷ is)
  begun s single is a rest r e = sign_before s single (is ++ rest) (a rest r e)

  joined_by : (s : Mark) → Single s → (is js : List Item) → Segment is → Segment js → Segment (is ++ mark s ∷ js)
  joined_by s single is js a b rest r e =
      let behind = sign_before s single (js ++ rest) (b rest r e) in
      subst AreSpelled (sym (append_assoc is (mark s ∷ js) rest)) (a (mark s ∷ (js ++ rest)) behind (single.stops (bytes_of texts (js ++ rest))))

  closed_by : (s : Mark) → Single s → (is : List Item) → Segment is → Segment (is ++ mark s ∷ [])
  closed_by s single is a = joined_by s single is [] a nothing

  label_ends : (text rest : List ℕ) (b : Bool) → EndsName rest → EndsToken (if b then Quoted else Word) (if b then codes "'" ++ text ++ codes "'" else text) rest
  label_ends text rest true e = tt
  label_ends text rest false e = e

  label_alone : (n : ℕ) → IsFit (label n) → Segment (label n ∷ [])
  label_alone n fit rest r e = (fit, label_ends (name_text texts n) (bytes_of texts rest) (wants_quotes (name_text texts n)) e, r)

  kind_alone : (k : AtomKind) → Segment (typed k ∷ [])
  kind_alone k rest r e = (tt, e, r)

  any_alone : Segment (any_word ∷ [])
  any_alone rest r e = (tt, e, r)

  name_alone : (n : ℕ) → IsFit (name n) → Segment (name n ∷ [])
  name_alone n fit rest r e = (fit, e, r)

  grouped_segment : (b : Bool) (is : List Item) → Segment is → Segment (grouped b is)
  grouped_segment true is a = begun sign.Open open_single (is ++ mark sign.Close ∷ []) (closed_by sign.Close close_single is a)
  grouped_segment false is a = a

  bare_or : (b : Bool) (is : List Item) → Segment is → Segment (if b then [] else is)
  bare_or true is a = nothing
  bare_or false is a = a

  bracketed_segment : (b : Bool) (i : Item) (is : List Item) → Segment (i ∷ []) → Segment is → Segment (i ∷ bracketed b is)
  bracketed_segment b i is front a =
      joined_by sign.OpenSquare open_square_single (i ∷ []) ((if b then [] else is) ++ mark sign.CloseSquare ∷ []) front
      (closed_by sign.CloseSquare close_square_single (if b then [] else is) (bare_or b is a))

  module _ (defs : Definitions) (names : All (λ n. IsTypeName (name_text texts n)) (names_of defs)) where
    type_name : (x : ℕ) (d : Definition) → slice_get defs x ≡ Some d → IsTypeName (name_text texts d.name)
    type_name x d at =
        let there : slice_get (names_of defs) x ≡ Some d.name = slice_get-map (λ (e : Definition). e.name) defs x ∙ ap (option_map (λ (e : Definition). e.name)) at in
        All-contains (λ n. IsTypeName (name_text texts n)) (names_of defs) d.name names (x, slice_get_within (names_of defs) x d.name there, get_or_from_slice_get (names_of defs) x d.name d.name there)

    named_segment : (x : ℕ) (o : Option Definition) → slice_get defs x ≡ o → IsSomeAnd o (λ d. d.name < length texts) → Segment (named_items o)
    named_segment x None at below = absurd below
    named_segment x (Some d) at below = name_alone d.name (below, type_name x d at)

    segment : (t : Ty) → IsWritable (length texts) defs t → HasLabels texts t → Segment (items_of defs t)
    segment empty w l = begun sign.Open open_single (mark sign.Close ∷ []) (begun sign.Close close_single [] nothing)
    segment (atom k) w l = kind_alone k
    segment (element n t) w l = bracketed_segment (is_empty t) (label n) (items_of defs t) (label_alone n (w.0, l.0)) (segment t w.1 l.1)
    segment (any_element t) w l = bracketed_segment (is_empty t) any_word (items_of defs t) any_alone (segment t w l)
    segment (seq t u) w l =
        joined_by sign.Comma comma_single (grouped (is_choice t) (items_of defs t)) (grouped (is_choice u) (items_of defs u))
        (grouped_segment (is_choice t) (items_of defs t) (segment t w.0 l.0)) (grouped_segment (is_choice u) (items_of defs u) (segment u w.1 l.1))
    segment (alt t u) w l =
        joined_by sign.Bar bar_single (items_of defs t) (items_of defs u) (segment t w.0 l.0) (segment u w.1 l.1)
    segment (star t) w l =
        closed_by sign.Star star_single (grouped (is_list t) (items_of defs t)) (grouped_segment (is_list t) (items_of defs t) (segment t w l))
    segment (named x) w l = named_segment x (slice_get defs x) refl w

    -- the items of a type that can be written
    pub spelled : (t : Ty) → IsWritable (length texts) defs t → HasLabels texts t → AreSpelled (items_of defs t ++ [])
    spelled t w l = segment t w l [] tt tt
