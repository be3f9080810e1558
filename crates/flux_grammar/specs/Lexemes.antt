-- What a token is to the grammar, over a table of names.
use Rattle.std.specs.Prelude.{◌≡◌, ℕ, ℤ, Bool, false, List, [], ◌∷◌, ◌++◌, Some, codes, slice_get, slice_range}
use Rattle.flux_atom.specs.declared.atom.Atom.TheVariants.{Bool as Truth, Text, Int as Whole}
use Rattle.flux_atom.specs.Literal.{literal}
use Rattle.flux_atom.specs.Names.{IsTable}
use Rattle.flux_atom.specs.Reserved.{is_reserved}
use Rattle.flux_atom.specs.Spelling.{IsLiteral}
use Rattle.flux_grammar.specs.declared.lexeme.Keyword.{Keyword}
use Rattle.flux_grammar.specs.declared.lexeme.Keyword.TheVariants as key
use Rattle.flux_grammar.specs.declared.lexeme.Lexeme.{Lexeme}
use Rattle.flux_grammar.specs.declared.lexeme.Lexeme.TheVariants.{Reserved, Sign, Word, Soft, Quoted, Var, Literal}
use Rattle.flux_grammar.specs.declared.lexeme.Piece.{Piece}
use Rattle.flux_grammar.specs.declared.lexeme.Sign.{Sign as Mark}
use Rattle.flux_grammar.specs.declared.lexeme.Sign.TheVariants as sign
use Rattle.flux_grammar.specs.declared.lexeme.Soft.{Soft as SoftWord}
use Rattle.flux_grammar.specs.declared.lexeme.Soft.TheVariants as soft
use Rattle.flux_grammar.specs.declared.token.Token.{Token}
use Rattle.flux_grammar.specs.declared.token.TokenKind.{TokenKind}
use Rattle.flux_grammar.specs.declared.token.TokenKind.TheVariants as token

abbrev pub keyword_text : Keyword → List ℕ
keyword_text key.Type = codes "TYPE"
keyword_text key.Procedure = codes "PROCEDURE"
keyword_text key.Input = codes "INPUT"
keyword_text key.Output = codes "OUTPUT"
keyword_text key.Do = codes "DO"
keyword_text key.Skip = codes "SKIP"
keyword_text key.Insert = codes "INSERT"
keyword_text key.Before = codes "BEFORE"
keyword_text key.After = codes "AFTER"
keyword_text key.As = codes "AS"
keyword_text key.First = codes "FIRST"
keyword_text key.Last = codes "LAST"
keyword_text key.Into = codes "INTO"
keyword_text key.Value = codes "VALUE"
keyword_text key.Delete = codes "DELETE"
keyword_text key.From = codes "FROM"
keyword_text key.Rename = codes "RENAME"
keyword_text key.To = codes "TO"
keyword_text key.Replace = codes "REPLACE"
keyword_text key.In = codes "IN"
keyword_text key.With = codes "WITH"
keyword_text key.Update = codes "UPDATE"
keyword_text key.By = codes "BY"
keyword_text key.If = codes "IF"
keyword_text key.Then = codes "THEN"
keyword_text key.Else = codes "ELSE"
keyword_text key.Let = codes "LET"
keyword_text key.Call = codes "CALL"
keyword_text key.Where = codes "WHERE"
keyword_text key.QueryFor = codes "for"
keyword_text key.QueryIn = codes "in"
keyword_text key.QueryReturn = codes "return"
keyword_text key.QueryLet = codes "let"
keyword_text key.QueryIf = codes "if"
keyword_text key.QueryThen = codes "then"
keyword_text key.QueryElse = codes "else"

abbrev pub soft_text : SoftWord → List ℕ
soft_text soft.StringWord = codes "string"
soft_text soft.BoolWord = codes "bool"
soft_text soft.IntWord = codes "int"
soft_text soft.ChildWord = codes "child"
soft_text soft.AnyWord = codes "any"

abbrev pub sign_text : Mark → List ℕ
sign_text sign.Open = codes "("
sign_text sign.Close = codes ")"
sign_text sign.OpenSquare = codes "["
sign_text sign.CloseSquare = codes "]"
sign_text sign.OpenBrace = codes "{"
sign_text sign.CloseBrace = codes "}"
sign_text sign.Comma = codes ","
sign_text sign.Semicolon = codes ";"
sign_text sign.Colon = codes ":"
sign_text sign.DoubleColon = codes "::"
sign_text sign.Equal = codes "="
sign_text sign.Arrow = codes "=>"
sign_text sign.Less = codes "<"
sign_text sign.Slash = codes "/"
sign_text sign.Star = codes "*"
sign_text sign.Plus = codes "+"
sign_text sign.Question = codes "?"
sign_text sign.Bar = codes "|"
sign_text sign.Dot = codes "."

-- the table has the text under the number
abbrev pub NamesText : List (List ℕ) → ℕ → List ℕ → Type 0
NamesText texts n text = slice_get texts n ≡ Some text

-- a word that is one of the soft words
abbrev pub IsSoft : List ℕ → Type 0
IsSoft text = (s : SoftWord) × (text ≡ soft_text s)

-- a token of this kind and this text is the lexeme: a word is a reserved word, a truth value, a
-- soft word or another; a quoted label and a variable are named without their `'` and `$`
pub data IsLexeme (texts : List (List ℕ)) : TokenKind → List ℕ → Lexeme → Type 0 where
  a_reserved : {text : List ℕ} (k : Keyword) →
      text ≡ keyword_text k → IsLexeme texts token.Word text (Reserved k)
  a_truth : {text : List ℕ} (b : Bool) →
      text ≡ literal (Truth b) → IsLexeme texts token.Word text (Literal (Truth b))
  a_soft : {text : List ℕ} {n : ℕ} (s : SoftWord) → text ≡ soft_text s → NamesText texts n text →
      IsLexeme texts token.Word text (Soft s n)
  a_word : {text : List ℕ} {n : ℕ} → is_reserved text ≡ false → ¬ (IsSoft text) →
      NamesText texts n text → IsLexeme texts token.Word text (Word n)
  a_quoted : {text : List ℕ} {n : ℕ} (label : List ℕ) → text ≡ codes "'" ++ (label ++ codes "'") →
      NamesText texts n label → IsLexeme texts token.Quoted text (Quoted n)
  a_variable : {text : List ℕ} {n : ℕ} (name : List ℕ) → text ≡ codes "$" ++ name →
      NamesText texts n name → IsLexeme texts token.Var text (Var n)
  a_string : {text chars : List ℕ} →
      IsLiteral text (Text chars) → IsLexeme texts token.Str text (Literal (Text chars))
  a_number : {text : List ℕ} {z : ℤ} →
      IsLiteral text (Whole z) → IsLexeme texts token.Number text (Literal (Whole z))
  a_sign : {text : List ℕ} (s : Mark) →
      text ≡ sign_text s → IsLexeme texts token.Sign text (Sign s)

-- the pieces are these tokens of the bytes, one each
pub data ArePieces (texts : List (List ℕ)) (bytes : List ℕ) : List Token → List Piece → Type 0 where
  no_pieces : ArePieces texts bytes [] []
  more_pieces : {t : Token} {ts : List Token} {x : Piece} {xs : List Piece} → x.span ≡ t.span →
      IsLexeme texts t.kind (slice_range bytes t.span.from t.span.to) x.lexeme →
      ArePieces texts bytes ts xs → ArePieces texts bytes (t ∷ ts) (x ∷ xs)

-- tokens are one list of pieces at most, over one table
abbrev pub PiecesAreUnique : Type 0
PiecesAreUnique =
    (texts : List (List ℕ)) (bytes : List ℕ) (ts : List Token) (xs ys : List Piece) →
    IsTable texts → ArePieces texts bytes ts xs → ArePieces texts bytes ts ys → xs ≡ ys
