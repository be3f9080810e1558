-- The pieces of the tokens so far, over a table that grows.
use Rattle.std.proofs.Common.{◌≡◌, ◌≤◌, ◌<◌, ◌+◌, ◌-◌, ◌^◌, ◌++◌, ℕ, Bool, true, false, Option, None, Some, List, [], ◌∷◌, length, take, drop, get_or, refl, sym, ap, subst, ◌∙◌, arith, append-nil, append_assoc}
use Rattle.std.specs.Prelude.{bytes_eq, slice_range, if◌then◌else◌}
use Rattle.std.specs.List.{list_any}
use Rattle.std.proofs.lemmas.List.{drop_more, get_or_append_left, length-append, take_more}
use Rattle.std.proofs.lemmas.Option.{get_or_from_slice_get, slice_get-get_or, slice_get_within}
use Rattle.flux_atom.specs.Names.{IsTable}
use Rattle.flux_grammar.specs.declared.lexeme.Lexeme.{Lexeme}
use Rattle.flux_grammar.specs.declared.lexeme.Piece.{Piece}
use Rattle.flux_grammar.specs.declared.token.Token.{Token}
use Rattle.flux_grammar.specs.declared.token.TokenKind.{TokenKind}
use Rattle.flux_grammar.specs.Lexemes.{ArePieces, IsLexeme, NamesText, a_number, a_quoted, a_reserved, a_sign, a_soft, a_string, a_truth, a_variable, a_word, more_pieces, no_pieces}
use Rattle.flux_grammar.specs.Tokens.{AreTokens}
use Rattle.flux_syntax.specs.Learnt.{learnt, with_name, written_name}
use Rattle.flux_syntax.proofs.Standing.{no_more_than_bytes}

-- ---- a table with more names behind

name_kept : (texts more : List (List ℕ)) (n : ℕ) (text : List ℕ) → NamesText texts n text → NamesText (texts ++ more) n text
name_kept texts more n text named =
    let below = slice_get_within texts n text named in
    slice_get-get_or (texts ++ more) n text (omega (arith, below, length-append texts more))
    ∙ ap Some (get_or_append_left texts more text n below ∙ get_or_from_slice_get texts n text text named)

lexeme_kept : {texts : List (List ℕ)} {kind : TokenKind} {text : List ℕ} {l : Lexeme} (more : List (List ℕ)) → IsLexeme texts kind text l → IsLexeme (texts ++ more) kind text l
lexeme_kept more (a_reserved k is) = a_reserved k is
lexeme_kept more (a_truth b is) = a_truth b is
lexeme_kept {texts} {text = text} more (a_soft {n = n} s is named) =
    a_soft s is (name_kept texts more n text named)
lexeme_kept {texts} {text = text} more (a_word {n = n} free other named) =
    a_word free other (name_kept texts more n text named)
lexeme_kept {texts} more (a_quoted {n = n} label is named) =
    a_quoted label is (name_kept texts more n label named)
lexeme_kept {texts} more (a_variable {n = n} name is named) =
    a_variable name is (name_kept texts more n name named)
lexeme_kept more (a_string is) = a_string is
lexeme_kept more (a_number is) = a_number is
lexeme_kept more (a_sign s is) = a_sign s is

pieces_kept : {texts : List (List ℕ)} {bytes : List ℕ} {ts : List Token} {xs : List Piece} (more : List (List ℕ)) → ArePieces texts bytes ts xs → ArePieces (texts ++ more) bytes ts xs
pieces_kept more no_pieces = no_pieces
pieces_kept more (more_pieces at is rest) = more_pieces at (lexeme_kept more is) (pieces_kept more rest)

-- one piece more
pieces_push : {texts : List (List ℕ)} {bytes : List ℕ} {ts : List Token} {xs : List Piece} (t : Token) (x : Piece) → ArePieces texts bytes ts xs → x.span ≡ t.span → IsLexeme texts t.kind (slice_range bytes t.span.from t.span.to) x.lexeme → ArePieces texts bytes (ts ++ t ∷ []) (xs ++ x ∷ [])
pieces_push t x no_pieces same lexeme = more_pieces same lexeme no_pieces
pieces_push t x (more_pieces at is rest) same lexeme = more_pieces at is (pieces_push t x rest same lexeme)

-- the table has one name more at most
with_name-grows : (texts : List (List ℕ)) (name : Option (List ℕ)) → (more : List (List ℕ)) × (with_name texts name ≡ texts ++ more) × (length more ≤ 1)
with_name-grows texts None = ([], sym (append-nil texts), omega arith)
with_name-grows texts (Some name) = by (list_any (bytes_eq name) texts)
  where
    by : (held : Bool) → (more : List (List ℕ)) × ((if held then texts else texts ++ name ∷ []) ≡ texts ++ more) × (length more ≤ 1)
    by true = ([], sym (append-nil texts), omega arith)
    by false = (name ∷ [], refl, omega arith)

-- ---- the tokens before a place

abbrev Texts : Type 0
Texts = List (List ℕ)

-- the tokens before the place are these pieces, and the table has learnt their names
pub record IsSoFar (bytes : List ℕ) (tokens : List Token) (old : Texts) (place : ℕ) (names : Texts) (xs : List Piece) : Type 0 where
  pub pieces : ArePieces names bytes (take place tokens) xs
  pub learns : learnt bytes (drop place tokens) names ≡ learnt bytes tokens old
  pub more : (more : Texts) × (names ≡ old ++ more)
  pub room : length names ≤ length old + place
  pub table : IsTable names

pub none_yet : (bytes : List ℕ) (tokens : List Token) (old : Texts) → IsTable old → IsSoFar bytes tokens old 0 old []
none_yet bytes tokens old table = record {
  pieces = no_pieces;
  learns = refl;
  more = ([], sym (append-nil old));
  room = omega arith;
  table = table;
}

abbrev pub text_of : List ℕ → Token → List ℕ
text_of bytes t = slice_range bytes t.span.from t.span.to

module _ (bytes : List ℕ) (tokens : List Token) (old names : Texts) (place : ℕ) (xs : List Piece) (sofar : IsSoFar bytes tokens old place names xs) (are : AreTokens bytes tokens) where
  -- there is room for one name more
  pub room_left : place < length tokens → length old + length bytes < 2 ^ 32 - 1 → length names < 2 ^ 32 - 1
  room_left below few = omega (arith, sofar.room, no_more_than_bytes bytes tokens are)

  pub room_kept : (new : Texts) → place ≤ length tokens → new ≡ names → length new ≤ length old + length bytes
  room_kept new upto same =
      omega (arith, sofar.room, no_more_than_bytes bytes tokens are, ap length same)

module _ (bytes : List ℕ) (tokens : List Token) (old names new : Texts) (place : ℕ) (xs : List Piece) (d : Token) (text : List ℕ) (sofar : IsSoFar bytes tokens old place names xs) (below : place < length tokens) (said : text ≡ text_of bytes (get_or tokens place d)) (learns : new ≡ with_name names (written_name (get_or tokens place d).kind text)) where
  grows : (more : Texts) × (new ≡ names ++ more) × (length more ≤ 1)
  grows =
      let one = with_name-grows names (written_name (get_or tokens place d).kind text) in
      (one.0, learns ∙ one.1, one.2)

  pub still_grown : (more : Texts) × (new ≡ old ++ more)
  still_grown =
      (sofar.more.0 ++ grows.0, grows.1 ∙ ap (λ l. l ++ grows.0) sofar.more.1 ∙ append_assoc old sofar.more.0 grows.0)

  still_room : length new ≤ length old + (place + 1)
  still_room =
      omega (arith, ap length grows.1, length-append names grows.0, grows.2, sofar.room)

  pub room_then : AreTokens bytes tokens → length new ≤ length old + length bytes
  room_then are = omega (arith, still_room, no_more_than_bytes bytes tokens are)

  pub one_more : (x : Piece) → IsTable new → x.span ≡ (get_or tokens place d).span → IsLexeme new (get_or tokens place d).kind text x.lexeme → IsSoFar bytes tokens old (place + 1) new (xs ++ x ∷ [])
  one_more x table same lexeme =
      let kept : ArePieces new bytes (take place tokens) xs =
      subst (λ l. ArePieces l bytes (take place tokens) xs) (sym grows.1) (pieces_kept grows.0 sofar.pieces) in
      let here = subst (λ l. IsLexeme new (get_or tokens place d).kind l x.lexeme) said lexeme in
      record {
        pieces = subst (λ ts. ArePieces new bytes ts (xs ++ x ∷ [])) (sym (take_more tokens place d below)) (pieces_push (get_or tokens place d) x kept same here);
        learns =
            ap (learnt bytes (drop (place + 1) tokens)) (learns ∙ ap (λ l. with_name names (written_name (get_or tokens place d).kind l)) said)
            ∙ sym (ap (λ ts. learnt bytes ts names) (drop_more tokens place d below))
            ∙ sofar.learns;
        more = still_grown;
        room = still_room;
        table = table;
      }
