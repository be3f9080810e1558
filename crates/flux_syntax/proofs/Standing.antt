-- Where the tokens of a script stand in its bytes, and how many they are.
use Rattle.std.proofs.Common.{◌≡◌, ◌≤◌, ◌<◌, ◌+◌, ◌-◌, ◌++◌, ℕ, true, List, [], ◌∷◌, None, Some, length, take, drop, All, refl, sym, ap, subst, ◌∙◌, arith}
use Rattle.std.specs.Prelude.{slice_range, nat_lt}
use Rattle.std.proofs.lemmas.Bool.{ltb-true}
use Rattle.std.proofs.lemmas.List.{drop-drop, drop_at, length-append, length-drop, take_at}
use Rattle.std.proofs.lemmas.List.Elements.{All-cons, All-contains, All-nil}
use Rattle.std.proofs.lemmas.List.Sums.{AllPass-from_list_all}
use Rattle.flux_atom.proofs.NumberLaws.{literal_reads}
use Rattle.flux_grammar.specs.declared.token.Token.{Token}
use Rattle.flux_grammar.specs.declared.token.TokenKind.{TokenKind}
use Rattle.flux_grammar.specs.declared.token.TokenKind.TheVariants.{Word, Quoted, Var, Str, Number, Sign}
use Rattle.flux_grammar.specs.Tokens.{AreTokens, IsToken, Lexed, ended, space, comment, token, signs}

-- the token stands in the bytes where it says
pub record StandsIn (bytes : List ℕ) (t : Token) : Type 0 where
  pub ordered : t.span.from ≤ t.span.to
  pub within : t.span.to ≤ length bytes
  pub is : IsToken t.kind (slice_range bytes t.span.from t.span.to)

-- a token has a byte at least
has_byte : (kind : TokenKind) (text : List ℕ) → IsToken kind text → 0 < length text
has_byte Word [] is = absurd is
has_byte Word (b ∷ text) is = omega arith
has_byte Quoted text (label, is, split) = omega (arith, ap length split)
has_byte Var text (name, is, split) = omega (arith, ap length split)
has_byte Str text (chars, (items, are, split)) = omega (arith, ap length split)
has_byte Number [] (z, is) = absurd (none_some (literal_reads [] z is))
  where
    none_some : {A : Type 0} {x : A} → None ≡ Some x → ⊥
    none_some e = cc
has_byte Number (b ∷ text) (z, is) = omega arith
has_byte Sign text is =
    ltb-true 0 (length text) (All-contains (λ s. nat_lt 0 (length s) ≡ true) signs text (AllPass-from_list_all (λ s. nat_lt 0 (length s)) signs refl) is)

-- a part of the bytes that begins at the place, and what follows it
module _ (bytes : List ℕ) (at : ℕ) (part rest : List ℕ) (split : part ++ rest ≡ drop at bytes) where
  rest_behind : rest ≡ drop (at + length part) bytes
  rest_behind =
      sym (drop_at part rest (length part) refl) ∙ ap (drop (length part)) split ∙ drop-drop (length part) at bytes

  part_within : 0 < length part → at + length part ≤ length bytes
  part_within some = omega (arith, ap length split, length-append part rest, length-drop at bytes)

  part_stands : slice_range bytes at (at + length part) ≡ part
  part_stands =
      let long : length part ≡ at + length part - at = omega arith in
      ap (take (at + length part - at)) (sym split) ∙ take_at part rest (at + length part - at) long

tokens_stand : {at : ℕ} {rest : List ℕ} {ts : List Token} (bytes : List ℕ) → Lexed at rest ts → rest ≡ drop at bytes → All (StandsIn bytes) ts
tokens_stand bytes ended there = All-nil (StandsIn bytes)
tokens_stand {at} bytes (space {rest = rest} b is l) there =
    tokens_stand bytes l (rest_behind bytes at (b ∷ []) rest there)
tokens_stand {at} bytes (comment remark rest all over split l) there =
    let past : at + length (35 ∷ remark) ≡ at + 1 + length remark = omega arith in
    tokens_stand bytes l (rest_behind bytes at (35 ∷ remark) rest (split ∙ there) ∙ ap (λ n. drop n bytes) past)
tokens_stand {at} bytes (token {tokens = ts} kind text rest is ends split l) there =
    All-cons (StandsIn bytes) _ ts
    (record {
      ordered = omega arith;
      within = part_within bytes at text rest (split ∙ there) (has_byte kind text is);
      is = subst (IsToken kind) (sym (part_stands bytes at text rest (split ∙ there))) is;
    })
    (tokens_stand bytes l (rest_behind bytes at text rest (split ∙ there)))

pub each_stands : (bytes : List ℕ) (ts : List Token) → AreTokens bytes ts → All (StandsIn bytes) ts
each_stands bytes ts are = tokens_stand bytes are refl

tokens_few : {at : ℕ} {rest : List ℕ} {ts : List Token} → Lexed at rest ts → length ts ≤ length rest
tokens_few ended = omega arith
tokens_few (space b is l) = omega (arith, tokens_few l)
tokens_few (comment remark rest all over split l) =
    omega (arith, tokens_few l, ap length split, length-append remark rest)
tokens_few (token kind text rest is ends split l) =
    omega (arith, tokens_few l, has_byte kind text is, ap length split, length-append text rest)

pub no_more_than_bytes : (bytes : List ℕ) (ts : List Token) → AreTokens bytes ts → length ts ≤ length bytes
no_more_than_bytes bytes ts are = tokens_few are
