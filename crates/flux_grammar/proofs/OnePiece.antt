-- A token is one lexeme at most over a table, and tokens are one list of pieces at most.
use Rattle.std.proofs.Common.{◌≡◌, ℕ, Bool, true, false, List, [], ◌∷◌, ◌++◌, length, Option, Some, None, refl, sym, ap, ap₂, ◌∙◌, arith}
use Rattle.std.specs.Prelude.{codes, bytes_eq, if◌then◌else◌}
use Rattle.std.proofs.lemmas.List.{append-nil, append_cancel_right}
use Rattle.flux_atom.specs.declared.atom.Atom.{Atom}
use Rattle.flux_atom.specs.declared.atom.Atom.TheVariants.{Bool as Truth, Text, Int as Whole}
use Rattle.flux_atom.specs.Literal.{literal}
use Rattle.flux_atom.specs.Names.{IsTable}
use Rattle.flux_atom.specs.Reserved.{is_reserved}
use Rattle.flux_atom.specs.Spelling.{IsLiteral, EndsLiteral, IsLiteralAt}
use Rattle.flux_atom.proofs.StandingLiterals.{literal_unique}
use Rattle.flux_calculus.specs.declared.ask.Span.{Span}
use Rattle.flux_grammar.specs.declared.lexeme.Keyword.{Keyword}
use Rattle.flux_grammar.specs.declared.lexeme.Keyword.TheVariants as key
use Rattle.flux_grammar.specs.declared.lexeme.Lexeme.{Lexeme}
use Rattle.flux_grammar.specs.declared.lexeme.Lexeme.TheVariants.{Reserved, Sign, Word, Soft, Quoted, Var, Literal}
use Rattle.flux_grammar.specs.declared.lexeme.Piece.{Piece}
use Rattle.flux_grammar.specs.declared.lexeme.Sign.{Sign as Mark}
use Rattle.flux_grammar.specs.declared.lexeme.Sign.TheVariants as sign
use Rattle.flux_grammar.specs.declared.lexeme.Soft.{Soft as SoftWord}
use Rattle.flux_grammar.specs.declared.lexeme.Soft.TheVariants as soft
use Rattle.flux_grammar.specs.declared.token.Token.{Token}
use Rattle.flux_grammar.specs.declared.token.TokenKind.{TokenKind}
use Rattle.flux_grammar.specs.Lexemes.{keyword_text, soft_text, sign_text, NamesText, IsLexeme, a_reserved, a_truth, a_soft, a_word, a_quoted, a_variable, a_string, a_number, a_sign, ArePieces, no_pieces, more_pieces, PiecesAreUnique}

-- ---- words that the language knows

data Known : Type 0 where
  keyword : Keyword → Known
  truth : Bool → Known
  softly : SoftWord → Known

abbrev found : List ℕ → List (List ℕ × Known) → Option Known
found text [] = None
found text (w ∷ ws) = if bytes_eq text w.0 then Some w.1 else found text ws

abbrev words : List (List ℕ × Known)
words =
    (codes "TYPE", keyword key.Type) ∷ (codes "PROCEDURE", keyword key.Procedure) ∷
    (codes "INPUT", keyword key.Input) ∷ (codes "OUTPUT", keyword key.Output) ∷
    (codes "DO", keyword key.Do) ∷ (codes "SKIP", keyword key.Skip) ∷
    (codes "INSERT", keyword key.Insert) ∷ (codes "BEFORE", keyword key.Before) ∷
    (codes "AFTER", keyword key.After) ∷ (codes "AS", keyword key.As) ∷
    (codes "FIRST", keyword key.First) ∷ (codes "LAST", keyword key.Last) ∷
    (codes "INTO", keyword key.Into) ∷ (codes "VALUE", keyword key.Value) ∷
    (codes "DELETE", keyword key.Delete) ∷ (codes "FROM", keyword key.From) ∷
    (codes "RENAME", keyword key.Rename) ∷ (codes "TO", keyword key.To) ∷
    (codes "REPLACE", keyword key.Replace) ∷ (codes "IN", keyword key.In) ∷
    (codes "WITH", keyword key.With) ∷ (codes "UPDATE", keyword key.Update) ∷
    (codes "BY", keyword key.By) ∷ (codes "IF", keyword key.If) ∷ (codes "THEN", keyword key.Then) ∷
    (codes "ELSE", keyword key.Else) ∷ (codes "LET", keyword key.Let) ∷
    (codes "CALL", keyword key.Call) ∷ (codes "WHERE", keyword key.Where) ∷
    (codes "for", keyword key.QueryFor) ∷ (codes "in", keyword key.QueryIn) ∷
    (codes "return", keyword key.QueryReturn) ∷ (codes "let", keyword key.QueryLet) ∷
    (codes "if", keyword key.QueryIf) ∷ (codes "then", keyword key.QueryThen) ∷
    (codes "else", keyword key.QueryElse) ∷ (codes "true", truth true) ∷
    (codes "false", truth false) ∷ (codes "string", softly soft.StringWord) ∷
    (codes "bool", softly soft.BoolWord) ∷ (codes "int", softly soft.IntWord) ∷
    (codes "child", softly soft.ChildWord) ∷ (codes "any", softly soft.AnyWord) ∷ []

abbrev known : List ℕ → Option Known
known text = found text words

known_keyword : (k : Keyword) → known (keyword_text k) ≡ Some (keyword k)
known_keyword key.Type = refl
known_keyword key.Procedure = refl
known_keyword key.Input = refl
known_keyword key.Output = refl
known_keyword key.Do = refl
known_keyword key.Skip = refl
known_keyword key.Insert = refl
known_keyword key.Before = refl
known_keyword key.After = refl
known_keyword key.As = refl
known_keyword key.First = refl
known_keyword key.Last = refl
known_keyword key.Into = refl
known_keyword key.Value = refl
known_keyword key.Delete = refl
known_keyword key.From = refl
known_keyword key.Rename = refl
known_keyword key.To = refl
known_keyword key.Replace = refl
known_keyword key.In = refl
known_keyword key.With = refl
known_keyword key.Update = refl
known_keyword key.By = refl
known_keyword key.If = refl
known_keyword key.Then = refl
known_keyword key.Else = refl
known_keyword key.Let = refl
known_keyword key.Call = refl
known_keyword key.Where = refl
known_keyword key.QueryFor = refl
known_keyword key.QueryIn = refl
known_keyword key.QueryReturn = refl
known_keyword key.QueryLet = refl
known_keyword key.QueryIf = refl
known_keyword key.QueryThen = refl
known_keyword key.QueryElse = refl

known_truth : (b : Bool) → known (literal (Truth b)) ≡ Some (truth b)
known_truth true = refl
known_truth false = refl

known_soft : (s : SoftWord) → known (soft_text s) ≡ Some (softly s)
known_soft soft.StringWord = refl
known_soft soft.BoolWord = refl
known_soft soft.IntWord = refl
known_soft soft.ChildWord = refl
known_soft soft.AnyWord = refl

keyword_reserved : (k : Keyword) → is_reserved (keyword_text k) ≡ true
keyword_reserved key.Type = refl
keyword_reserved key.Procedure = refl
keyword_reserved key.Input = refl
keyword_reserved key.Output = refl
keyword_reserved key.Do = refl
keyword_reserved key.Skip = refl
keyword_reserved key.Insert = refl
keyword_reserved key.Before = refl
keyword_reserved key.After = refl
keyword_reserved key.As = refl
keyword_reserved key.First = refl
keyword_reserved key.Last = refl
keyword_reserved key.Into = refl
keyword_reserved key.Value = refl
keyword_reserved key.Delete = refl
keyword_reserved key.From = refl
keyword_reserved key.Rename = refl
keyword_reserved key.To = refl
keyword_reserved key.Replace = refl
keyword_reserved key.In = refl
keyword_reserved key.With = refl
keyword_reserved key.Update = refl
keyword_reserved key.By = refl
keyword_reserved key.If = refl
keyword_reserved key.Then = refl
keyword_reserved key.Else = refl
keyword_reserved key.Let = refl
keyword_reserved key.Call = refl
keyword_reserved key.Where = refl
keyword_reserved key.QueryFor = refl
keyword_reserved key.QueryIn = refl
keyword_reserved key.QueryReturn = refl
keyword_reserved key.QueryLet = refl
keyword_reserved key.QueryIf = refl
keyword_reserved key.QueryThen = refl
keyword_reserved key.QueryElse = refl

truth_reserved : (b : Bool) → is_reserved (literal (Truth b)) ≡ true
truth_reserved true = refl
truth_reserved false = refl

-- ---- signs

abbrev signed : List ℕ → List (List ℕ × Mark) → Option Mark
signed text [] = None
signed text (w ∷ ws) = if bytes_eq text w.0 then Some w.1 else signed text ws

abbrev signs : List (List ℕ × Mark)
signs =
    (codes "(", sign.Open) ∷ (codes ")", sign.Close) ∷ (codes "[", sign.OpenSquare) ∷
    (codes "]", sign.CloseSquare) ∷ (codes "{", sign.OpenBrace) ∷ (codes "}", sign.CloseBrace) ∷
    (codes ",", sign.Comma) ∷ (codes ";", sign.Semicolon) ∷ (codes ":", sign.Colon) ∷
    (codes "::", sign.DoubleColon) ∷ (codes "=", sign.Equal) ∷ (codes "=>", sign.Arrow) ∷
    (codes "<", sign.Less) ∷ (codes "/", sign.Slash) ∷ (codes "*", sign.Star) ∷
    (codes "+", sign.Plus) ∷ (codes "?", sign.Question) ∷ (codes "|", sign.Bar) ∷
    (codes ".", sign.Dot) ∷ []

sign_known : (s : Mark) → signed (sign_text s) signs ≡ Some s
sign_known sign.Open = refl
sign_known sign.Close = refl
sign_known sign.OpenSquare = refl
sign_known sign.CloseSquare = refl
sign_known sign.OpenBrace = refl
sign_known sign.CloseBrace = refl
sign_known sign.Comma = refl
sign_known sign.Semicolon = refl
sign_known sign.Colon = refl
sign_known sign.DoubleColon = refl
sign_known sign.Equal = refl
sign_known sign.Arrow = refl
sign_known sign.Less = refl
sign_known sign.Slash = refl
sign_known sign.Star = refl
sign_known sign.Plus = refl
sign_known sign.Question = refl
sign_known sign.Bar = refl
sign_known sign.Dot = refl

one_sign : (text : List ℕ) (s z : Mark) → text ≡ sign_text s → text ≡ sign_text z → s ≡ z
one_sign text s z e f =
    let same : Some s ≡ Some z = sym (sign_known s) ∙ ap (λ t. signed t signs) (sym e ∙ f) ∙
    sign_known z in
    cc

-- ---- one lexeme

one_known : (text : List ℕ) (a b : Known) → known text ≡ Some a → known text ≡ Some b → a ≡ b
one_known text a b e f = cc

as_keyword : (text : List ℕ) (k : Keyword) → text ≡ keyword_text k → known text ≡ Some (keyword k)
as_keyword text k e = ap known e ∙ known_keyword k

as_truth : (text : List ℕ) (b : Bool) → text ≡ literal (Truth b) → known text ≡ Some (truth b)
as_truth text b e = ap known e ∙ known_truth b

as_soft : (text : List ℕ) (s : SoftWord) → text ≡ soft_text s → known text ≡ Some (softly s)
as_soft text s e = ap known e ∙ known_soft s

not_keyword : (text : List ℕ) (k : Keyword) → text ≡ keyword_text k → is_reserved text ≡ false → ⊥
not_keyword text k e f = let same = sym f ∙ ap is_reserved e ∙ keyword_reserved k in cc

not_truth : (text : List ℕ) (b : Bool) → text ≡ literal (Truth b) → is_reserved text ≡ false → ⊥
not_truth text b e f = let same = sym f ∙ ap is_reserved e ∙ truth_reserved b in cc

keywords : (text : List ℕ) (j k : Keyword) → text ≡ keyword_text j → text ≡ keyword_text k → j ≡ k
keywords text j k e f =
    let same = one_known text _ _ (as_keyword text j e) (as_keyword text k f) in cc

truths : (text : List ℕ) (a b : Bool) →
    text ≡ literal (Truth a) → text ≡ literal (Truth b) → a ≡ b
truths text a b e f = let same = one_known text _ _ (as_truth text a e) (as_truth text b f) in cc

softs : (text : List ℕ) (s z : SoftWord) → text ≡ soft_text s → text ≡ soft_text z → s ≡ z
softs text s z e f = let same = one_known text _ _ (as_soft text s e) (as_soft text z f) in cc

keyword_truth : (text : List ℕ) (k : Keyword) (b : Bool) →
    text ≡ keyword_text k → text ≡ literal (Truth b) → ⊥
keyword_truth text k b e f =
    let same = one_known text _ _ (as_keyword text k e) (as_truth text b f) in cc

keyword_soft : (text : List ℕ) (k : Keyword) (s : SoftWord) →
    text ≡ keyword_text k → text ≡ soft_text s → ⊥
keyword_soft text k s e f =
    let same = one_known text _ _ (as_keyword text k e) (as_soft text s f) in cc

truth_soft : (text : List ℕ) (b : Bool) (s : SoftWord) →
    text ≡ literal (Truth b) → text ≡ soft_text s → ⊥
truth_soft text b s e f = let same = one_known text _ _ (as_truth text b e) (as_soft text s f) in cc

alone : (text : List ℕ) (x : Atom) → IsLiteral text x → EndsLiteral x [] →
    IsLiteralAt text 0 x (length text)
alone text x is ends = record {
  before = [];
  spelled = text;
  behind = [];
  split = sym (append-nil text);
  begins = refl;
  ends = omega arith;
  is_literal = is;
  ended = ends;
}

one_literal : (text : List ℕ) (x y : Atom) → IsLiteral text x → EndsLiteral x [] →
    IsLiteral text y → EndsLiteral y [] → x ≡ y
one_literal text x y a e b f =
    (literal_unique text 0 x y (length text) (length text) (alone text x a e) (alone text y b f)).0

tails : (a b : ℕ) (x y : List ℕ) → a ∷ x ≡ b ∷ y → x ≡ y
tails a b x y e = cc

one_quoted : (text a b : List ℕ) → text ≡ codes "'" ++ (a ++ codes "'") →
    text ≡ codes "'" ++ (b ++ codes "'") → a ≡ b
one_quoted text a b e f =
    append_cancel_right a b (codes "'") (tails 39 39 _ _ (sym e ∙ f))

one_variable : (text a b : List ℕ) → text ≡ codes "$" ++ a → text ≡ codes "$" ++ b → a ≡ b
one_variable text a b e f = tails 36 36 a b (sym e ∙ f)

one_name : (texts : List (List ℕ)) (i j : ℕ) (a b : List ℕ) → IsTable texts → a ≡ b →
    NamesText texts i a → NamesText texts j b → i ≡ j
one_name texts i j a b table same f g = table.differ i j a f (g ∙ ap Some (sym same))

one_lexeme : {texts : List (List ℕ)} {kind : TokenKind} {text : List ℕ} {l m : Lexeme} →
    IsTable texts → IsLexeme texts kind text l → IsLexeme texts kind text m → l ≡ m
one_lexeme table (a_reserved j e) (a_reserved k f) =
    ap Reserved (keywords _ j k e f)
one_lexeme table (a_reserved j e) (a_truth b f) =
    absurd (keyword_truth _ j b e f)
one_lexeme table (a_reserved j e) (a_soft s f g) =
    absurd (keyword_soft _ j s e f)
one_lexeme table (a_reserved j e) (a_word r n g) =
    absurd (not_keyword _ j e r)
one_lexeme table (a_truth b e) (a_reserved k f) =
    absurd (keyword_truth _ k b f e)
one_lexeme table (a_truth b e) (a_truth c f) =
    ap (λ b. Literal (Truth b)) (truths _ b c e f)
one_lexeme table (a_truth b e) (a_soft s f g) =
    absurd (truth_soft _ b s e f)
one_lexeme table (a_truth b e) (a_word r n g) = absurd (not_truth _ b e r)
one_lexeme table (a_soft s e g) (a_reserved k f) =
    absurd (keyword_soft _ k s f e)
one_lexeme table (a_soft s e g) (a_truth b f) =
    absurd (truth_soft _ b s f e)
one_lexeme table (a_soft {n = i} s e g) (a_soft {n = j} z f h) =
    ap₂ Soft (softs _ s z e f) (one_name _ i j _ _ table refl g h)
one_lexeme table (a_soft s e g) (a_word r n h) = absurd (n (s, e))
one_lexeme table (a_word r n g) (a_reserved k f) =
    absurd (not_keyword _ k f r)
one_lexeme table (a_word r n g) (a_truth b f) = absurd (not_truth _ b f r)
one_lexeme table (a_word r n g) (a_soft s f h) = absurd (n (s, f))
one_lexeme table (a_word {n = i} r n g) (a_word {n = j} q o h) =
    ap Word (one_name _ i j _ _ table refl g h)
one_lexeme table (a_quoted {n = i} a e g) (a_quoted {n = j} b f h) =
    ap Quoted (one_name _ i j a b table (one_quoted _ a b e f) g h)
one_lexeme table (a_variable {n = i} a e g) (a_variable {n = j} b f h) =
    ap Var (one_name _ i j a b table (one_variable _ a b e f) g h)
one_lexeme table (a_string {chars = a} e) (a_string {chars = b} f) =
    ap Literal (one_literal _ (Text a) (Text b) e tt f tt)
one_lexeme table (a_number {z = a} e) (a_number {z = b} f) =
    ap Literal (one_literal _ (Whole a) (Whole b) e tt f tt)
one_lexeme table (a_sign s e) (a_sign z f) = ap Sign (one_sign _ s z e f)

same_piece : (x y : Piece) → x.lexeme ≡ y.lexeme → x.span ≡ y.span → x ≡ y
same_piece x y e f =
    let both : Lexeme → Span → Piece = λ l s. record { lexeme = l; span = s } in ap₂ both e f

same_list : {texts : List (List ℕ)} {bytes : List ℕ} {ts : List Token} {xs ys : List Piece} →
    IsTable texts → ArePieces texts bytes ts xs → ArePieces texts bytes ts ys → xs ≡ ys
same_list table no_pieces no_pieces = refl
same_list table (more_pieces {x = x} s l r) (more_pieces {x = y} s' l' r') =
    ap₂ (λ z zs. z ∷ zs) (same_piece x y (one_lexeme table l l') (s ∙ sym s')) (same_list table r
    r')

pub one_list : PiecesAreUnique
one_list texts bytes ts xs ys table a b = same_list table a b
