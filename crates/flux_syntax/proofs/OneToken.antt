-- What one token is to the grammar, and which name it writes.
use Rattle.std.proofs.Common.{◌≡◌, ◌≢◌, ◌-◌, ◌+◌, ◌<◌, ◌++◌, ℕ, Bool, true, List, [], ◌∷◌, None, Some, length, codes, inl, inr, ◌⊎◌, sym, ap, subst, subst₂, ◌∙◌, arith, append-nil, refl}
use Rattle.std.specs.Prelude.{slice_range, if◌then◌else◌}
use Rattle.std.specs.Str.{IsUtf8}
use Rattle.std.proofs.lemmas.Bool.Decides.{nat_tests}
use Rattle.std.proofs.lemmas.List.{length-append, take_all, take_at}
use Rattle.std.proofs.lemmas.List.Elements.{All-cons, All-weaker}
use Rattle.std.proofs.lemmas.Str.{IsUtf8-from_ascii}
use Rattle.std.proofs.lemmas.Str.Ascii.{IsAscii-from_all}
use Rattle.flux_atom.specs.declared.atom.Atom.{Atom}
use Rattle.flux_atom.specs.declared.atom.Atom.TheVariants.{Bool as Truth, Text, Int as Whole}
use Rattle.flux_atom.specs.Literal.{literal}
use Rattle.flux_atom.specs.Names.{continues_name, with_text, IsName}
use Rattle.flux_atom.specs.Spelling.{EndsLiteral, IsLiteral, IsLiteralAt}
use Rattle.flux_atom.proofs.StandingLiterals.{at_from_stands, literal_unique}
use Rattle.flux_grammar.specs.declared.lexeme.Keyword.{Keyword}
use Rattle.flux_grammar.specs.declared.lexeme.Lexeme.TheVariants.{Quoted, Var, Word, Literal}
use Rattle.flux_grammar.specs.declared.lexeme.Soft.{Soft}
use Rattle.flux_grammar.specs.declared.token.TokenKind.{TokenKind}
use Rattle.flux_grammar.specs.declared.token.TokenKind.TheVariants as token
use Rattle.flux_grammar.specs.Lexemes.{keyword_text, soft_text, NamesText, IsLexeme, a_quoted, a_variable, a_word, a_string, a_number}
use Rattle.flux_grammar.specs.Tokens.{IsToken}
use Rattle.flux_syntax.specs.Learnt.{with_name, written_name}
use Rattle.flux_syntax.proofs.KnownWords.{unreserved}

-- bytes of names are ASCII
pub name_utf8 : (name : List ℕ) → IsName name → IsUtf8 name
name_utf8 [] is = absurd is
name_utf8 (b ∷ name) is =
    let first : b < 128 = grind (arith, nat_tests, is.0) in
    IsUtf8-from_ascii (b ∷ name) (IsAscii-from_all (b ∷ name) (All-cons (λ c. c < 128) b name first (All-weaker (λ c. continues_name c ≡ true) (λ c. c < 128) continuing name is.1)))
  where
    continuing : (c : ℕ) → continues_name c ≡ true → c < 128
    continuing c e = grind (arith, nat_tests)

-- ---- literals

nothing_behind : (atom : Atom) → EndsLiteral atom []
nothing_behind (Truth b) = tt
nothing_behind (Text text) = tt
nothing_behind (Whole z) = tt

-- a text that is a literal is one at its first place
pub alone : (text : List ℕ) (atom : Atom) → IsLiteral text atom → IsLiteralAt text 0 atom (0 + length text)
alone text atom is =
    at_from_stands text [] text 0 atom refl refl (record {
      spelled = text;
      behind = [];
      split = sym (append-nil text);
      is_literal = is;
      ended = nothing_behind atom;
    })

pub literal_found : (text : List ℕ) (found atom : Atom) (to : ℕ) → IsLiteralAt text 0 found to → IsLiteral text atom → found ≡ atom
literal_found text found atom to at is =
    (literal_unique text 0 found atom to (0 + length text) at (alone text atom is)).0

-- a string and a number are the literals of an atom, and of no other
pub some_literal : (kind : TokenKind) (text : List ℕ) → (kind ≡ token.Str) ⊎ (kind ≡ token.Number) → IsToken kind text → (atom : Atom) × IsLiteral text atom
some_literal kind text (inl e) is =
    let (chars, spelled) = subst (λ k. IsToken k text) e is in (Text chars, spelled)
some_literal kind text (inr e) is =
    let (z, spelled) = subst (λ k. IsToken k text) e is in (Whole z, spelled)

pub literal_lexeme : (texts : List (List ℕ)) (kind : TokenKind) (text : List ℕ) (found : Atom) → (kind ≡ token.Str) ⊎ (kind ≡ token.Number) → IsToken kind text → ((atom : Atom) → IsLiteral text atom → found ≡ atom) → IsLexeme texts kind text (Literal found)
literal_lexeme texts kind text found (inl e) is only =
    let (chars, spelled) = subst (λ k. IsToken k text) e is in
    subst₂ (λ k a. IsLexeme texts k text (Literal a)) (sym e) (sym (only (Text chars) spelled)) (a_string spelled)
literal_lexeme texts kind text found (inr e) is only =
    let (z, spelled) = subst (λ k. IsToken k text) e is in
    subst₂ (λ k a. IsLexeme texts k text (Literal a)) (sym e) (sym (only (Whole z) spelled)) (a_number spelled)

-- ---- words

pub word_lexeme : (texts : List (List ℕ)) (text : List ℕ) (n : ℕ) → ((k : Keyword) → text ≢ keyword_text k) → ((b : Bool) → text ≢ literal (Truth b)) → ((s : Soft) → text ≢ soft_text s) → NamesText texts n text → IsLexeme texts token.Word text (Word n)
word_lexeme texts text n no_keyword no_truth no_soft named =
    a_word (unreserved text no_keyword no_truth) (λ soft. no_soft soft.0 soft.1) named

pub word_learnt : (texts new : List (List ℕ)) (text : List ℕ) → ((k : Keyword) → text ≢ keyword_text k) → ((b : Bool) → text ≢ literal (Truth b)) → new ≡ with_text texts text → new ≡ with_name texts (written_name token.Word text)
word_learnt texts new text no_keyword no_truth added =
    added ∙ ap (λ b. with_name texts (if b then None else Some text)) (sym (unreserved text no_keyword no_truth))

-- ---- labels and variables

inside_quotes : (text label : List ℕ) → text ≡ codes "'" ++ (label ++ codes "'") → slice_range text 1 (length text - 1) ≡ label
inside_quotes text label is =
    ap (λ l. slice_range l 1 (length l - 1)) is
    ∙ take_at label (codes "'") (length (codes "'" ++ (label ++ codes "'")) - 1 - 1) (omega (arith, length-append label (codes "'")))

pub quoted_lexeme : (texts : List (List ℕ)) (text : List ℕ) (n : ℕ) → IsToken token.Quoted text → NamesText texts n (slice_range text 1 (length text - 1)) → IsLexeme texts token.Quoted text (Quoted n)
quoted_lexeme texts text n (label, is, split) named =
    a_quoted label split (subst (NamesText texts n) (inside_quotes text label split) named)

behind_dollar : (text name : List ℕ) → text ≡ codes "$" ++ name → slice_range text 1 (length text) ≡ name
behind_dollar text name is =
    ap (λ l. slice_range l 1 (length l)) is ∙ take_all (length (codes "$" ++ name) - 1) name (omega arith)

pub variable_lexeme : (texts : List (List ℕ)) (text : List ℕ) (n : ℕ) → IsToken token.Var text → NamesText texts n (slice_range text 1 (length text)) → IsLexeme texts token.Var text (Var n)
variable_lexeme texts text n (name, is, split) named =
    a_variable name split (subst (NamesText texts n) (behind_dollar text name split) named)
