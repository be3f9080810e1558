-- The tokens of a script: which bytes are a token, and which are a list of tokens with white space
-- and comments between them.
use Rattle.std.specs.Prelude.{◌≡◌, ◌≢◌, ℕ, ◌+◌, ℤ, List, [], ◌∷◌, ◌++◌, All, Contains, codes, length, true}
use Rattle.flux_atom.specs.declared.atom.Atom.TheVariants.{Text, Int as Whole}
use Rattle.flux_atom.specs.Literal.{newline}
use Rattle.flux_atom.specs.Names.{IsName, IsLabel, EndsName}
use Rattle.flux_atom.specs.Space.{is_space}
use Rattle.flux_atom.specs.Spelling.{IsLiteral, EndsDigits}
use Rattle.flux_grammar.specs.declared.token.TokenKind.{TokenKind}
use Rattle.flux_grammar.specs.declared.token.TokenKind.TheVariants.{Word, Quoted, Var, Str, Number, Sign}
use Rattle.flux_grammar.specs.declared.token.Token.{Token}

abbrev pub signs : List (List ℕ)
signs =
    codes "(" ∷ codes ")" ∷ codes "[" ∷ codes "]" ∷ codes "{" ∷ codes "}" ∷ codes "," ∷ codes ";"
    ∷ codes ":" ∷ codes "::" ∷ codes "=" ∷ codes "=>" ∷ codes "<" ∷ codes "/" ∷ codes "*"
    ∷ codes "+" ∷ codes "?" ∷ codes "|" ∷ codes "." ∷ []

-- the bytes are a token of the kind: a name; a label between single quotes; `$` and a name; a
-- string; a number; a sign
abbrev pub IsToken : TokenKind → List ℕ → Type 0
IsToken Word bytes = IsName bytes
IsToken Quoted bytes =
    (label : List ℕ) × IsLabel label × (bytes ≡ codes "'" ++ (label ++ codes "'"))
IsToken Var bytes = (name : List ℕ) × IsName name × (bytes ≡ codes "$" ++ name)
IsToken Str bytes = (text : List ℕ) × IsLiteral bytes (Text text)
IsToken Number bytes = (z : ℤ) × IsLiteral bytes (Whole z)
IsToken Sign bytes = Contains signs bytes

-- nothing, or a byte that doesn't make the sign before it a longer one
abbrev pub EndsSign : List ℕ → List ℕ → Type 0
EndsSign sign [] = Unit {0}
EndsSign sign (b ∷ bs) = ¬ (Contains signs (sign ++ b ∷ []))

-- what may stand behind a token: names, the digits of numbers and signs are taken as long as
-- possible
abbrev pub EndsToken : TokenKind → List ℕ → List ℕ → Type 0
EndsToken Word bytes behind = EndsName behind
EndsToken Quoted bytes behind = Unit {0}
EndsToken Var bytes behind = EndsName behind
EndsToken Str bytes behind = Unit {0}
EndsToken Number bytes behind = EndsDigits behind
EndsToken Sign bytes behind = EndsSign bytes behind

-- a comment ends at a newline, or where the bytes end
abbrev pub EndsComment : List ℕ → Type 0
EndsComment [] = Unit {0}
EndsComment (b ∷ bs) = b ≡ newline

abbrev pub token_at : TokenKind → ℕ → ℕ → Token
token_at kind from to = record { kind = kind; span = record { from = from; to = to } }

-- the bytes, which begin at the place, are these tokens, with white space and comments before,
-- between and behind them
pub data Lexed : ℕ → List ℕ → List Token → Type 0 where
  ended : {at : ℕ} → Lexed at [] []
  space : {at : ℕ} {rest : List ℕ} {tokens : List Token} (b : ℕ) →
      is_space b ≡ true → Lexed (at + 1) rest tokens → Lexed at (b ∷ rest) tokens
  -- `#` and all bytes up to a newline or the end
  comment : {at : ℕ} {bytes : List ℕ} {tokens : List Token} (remark rest : List ℕ) →
      All (λ b. b ≢ newline) remark → EndsComment rest →
      codes "#" ++ (remark ++ rest) ≡ bytes →
      Lexed (at + 1 + length remark) rest tokens → Lexed at bytes tokens
  token : {at : ℕ} {bytes : List ℕ} {tokens : List Token}
      (kind : TokenKind) (text rest : List ℕ) →
      IsToken kind text → EndsToken kind text rest → text ++ rest ≡ bytes →
      Lexed (at + length text) rest tokens →
      Lexed at bytes (token_at kind at (at + length text) ∷ tokens)

-- the bytes are these tokens
abbrev pub AreTokens : List ℕ → List Token → Type 0
AreTokens bytes tokens = Lexed 0 bytes tokens

-- more bytes can make them a list of tokens
abbrev pub BeginTokens : List ℕ → Type 0
BeginTokens bytes = (more : List ℕ) × (tokens : List Token) × AreTokens (bytes ++ more) tokens

-- bytes are one list of tokens at most
abbrev pub TokensAreUnique : Type 0
TokensAreUnique =
    (bytes : List ℕ) (ts us : List Token) → AreTokens bytes ts → AreTokens bytes us → ts ≡ us
