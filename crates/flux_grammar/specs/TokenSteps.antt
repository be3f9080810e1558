-- A script byte by byte. `Lexed` is what it follows.
use Rattle.std.specs.Prelude.{ℕ, Bool, ◌||◌, ◌&&◌, ◌==◌, not, List, [], ◌∷◌, ◌++◌, Option, Some, None, codes, bytes_eq, if◌then◌else◌}
use Rattle.std.specs.Char.{is_ascii_digit}
use Rattle.std.specs.List.{list_any}
use Rattle.flux_atom.specs.declared.number.NumberState.{NumberState}
use Rattle.flux_atom.specs.declared.number.NumberState.TheVariants.{Minus, Digits}
use Rattle.flux_atom.specs.Literal.{quote, newline}
use Rattle.flux_atom.specs.Names.{begins_name, continues_name}
use Rattle.flux_atom.specs.NumberSteps.{number_begin, number_step}
use Rattle.flux_atom.specs.Space.{is_space}
use Rattle.flux_atom.specs.TextSteps.{TextStep, on, closes, misfits, text_step, TextRead, no_text}
use Rattle.flux_grammar.specs.declared.token.Token.{Token}
use Rattle.flux_grammar.specs.declared.token.TokenKind.{TokenKind}
use Rattle.flux_grammar.specs.declared.token.TokenKind.TheVariants.{Word, Quoted, Var, Str, Number, Sign}
use Rattle.flux_grammar.specs.Tokens.{token_at}

-- where a reader of tokens is
pub data Stage : Type 0 where
  -- between tokens
  blank : Stage
  -- in a comment, or at its end
  remark : Stage
  -- in a name, or at its end
  word : Stage
  -- behind `$`
  dollar : Stage
  -- in the name behind `$`, or at its end
  variable : Stage
  -- behind a single quote
  opened : Stage
  -- in the name behind a single quote
  label : Stage
  -- in a string
  string : TextRead → Stage
  -- in a number, or at its end
  number : NumberState → Stage
  -- behind a sign of this byte
  sign : ℕ → Stage
  -- behind a token of the kind that goes on with no byte
  closed : TokenKind → Stage

-- what a byte does: what is read goes on with it; the token of the kind, or white space or a
-- comment, ended before it; it fits nowhere
pub data Move : Type 0 where
  goes_on : Stage → Move
  ends : Option TokenKind → Move
  stuck : Move

-- the bytes that are signs, of which two make longer ones
abbrev pub is_sign : ℕ → Bool
is_sign b = list_any (λ c. c == b) (codes "()[]{},;:=</*+?|.")

abbrev pub is_longer_sign : ℕ → ℕ → Bool
is_longer_sign a b = (a == 58 && b == 58) || (a == 61 && b == 62)

-- the first byte of a token or a comment, or a byte of white space; none where it is none of these
abbrev pub number_stage : Option NumberState → Option Stage
number_stage None = None
number_stage (Some s) = Some (number s)

abbrev pub begin_stage : ℕ → Option Stage
begin_stage b =
    if is_space b then Some blank else
    if b == 35 then Some remark else
    if begins_name b then Some word else
    if b == 39 then Some opened else
    if b == 36 then Some dollar else
    if b == quote then Some (string no_text) else
    if is_sign b then Some (sign b) else number_stage (number_begin b)

-- no number ends behind `-`
abbrev pub number_end : NumberState → Move
number_end Minus = stuck
number_end (Digits z) = ends (Some Number)

-- the end of the bytes
abbrev pub end_move : Stage → Move
end_move blank = ends None
end_move remark = ends None
end_move word = ends (Some Word)
end_move dollar = stuck
end_move variable = ends (Some Var)
end_move opened = stuck
end_move label = stuck
end_move (string r) = stuck
end_move (number s) = number_end s
end_move (sign a) = ends (Some Sign)
end_move (closed kind) = ends (Some kind)

-- `true` and `false` behind a single quote
abbrev pub is_quoted_truth : List ℕ → Bool
is_quoted_truth text = bytes_eq text (codes "'true") || bytes_eq text (codes "'false")

abbrev pub string_move : TextRead → TextStep → Move
string_move r (on next added) = goes_on (string (next, r.1 ++ added))
string_move r closes = goes_on (closed Str)
string_move r misfits = stuck

-- a digit stands behind no number
abbrev pub number_move : NumberState → Option NumberState → Bool → Move
number_move s (Some next) digit = goes_on (number next)
number_move s None digit = if digit then stuck else number_end s

-- a byte behind what is read of a token
abbrev pub move : Stage → List ℕ → ℕ → Move
move blank text b = ends None
move remark text b = if b == newline then ends None else goes_on remark
move word text b = if continues_name b then goes_on word else ends (Some Word)
move dollar text b = if begins_name b then goes_on variable else stuck
move variable text b = if continues_name b then goes_on variable else ends (Some Var)
move opened text b = if begins_name b then goes_on label else stuck
move label text b =
    if continues_name b then goes_on label else
    if b == 39 && not (is_quoted_truth text) then goes_on (closed Quoted) else stuck
move (string r) text b = string_move r (text_step r.0 b)
move (number s) text b = number_move s (number_step s b) (is_ascii_digit b)
move (sign a) text b = if is_longer_sign a b then goes_on (closed Sign) else ends (Some Sign)
move (closed kind) text b = ends (Some kind)

-- the tokens with one more, from one place to another, where it is one
abbrev pub told : Option TokenKind → List Token → ℕ → ℕ → List Token
told None tokens from to = tokens
told (Some kind) tokens from to = tokens ++ token_at kind from to ∷ []
