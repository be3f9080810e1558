-- Where a reader stands, and what the next piece is.
use Rattle.std.specs.Prelude.{ℕ, Option, Some, None}
use Rattle.flux_atom.specs.declared.atom.Atom.{Atom}
use Rattle.flux_grammar.specs.declared.lexeme.Lexeme.{Lexeme}
use Rattle.flux_grammar.specs.declared.lexeme.Lexeme.TheVariants.{Sign, Word, Soft, Quoted, Var, Literal}
use Rattle.flux_grammar.specs.declared.lexeme.Sign.TheVariants as sign
use Rattle.flux_grammar.specs.declared.lexeme.Soft.{Soft as SoftWord}
use Rattle.flux_grammar.specs.declared.lexeme.Soft.TheVariants as soft
use Rattle.flux_grammar.specs.declared.tree.Repetition.{Repetition}
use Rattle.flux_grammar.specs.declared.tree.Repetition.TheVariants.{Star, Plus, Optional}
use Rattle.flux_grammar.specs.declared.tree.TestText.{TestText}
use Rattle.flux_grammar.specs.declared.tree.TestText.TheVariants as te
use Rattle.flux_grammar.specs.States.{State, state}
use Rattle.flux_syntax.specs.declared.reader.Reader.{Reader}

abbrev pub at : Reader → State
at r = state r.end r.left.now

-- the name of the next word, of a quoted label, of a soft word, of a variable
abbrev pub next_word : Option Lexeme → Option ℕ
next_word (Some (Word n)) = Some n
next_word _ = None

abbrev pub next_quoted : Option Lexeme → Option ℕ
next_quoted (Some (Quoted n)) = Some n
next_quoted _ = None

abbrev pub next_soft : Option Lexeme → Option (SoftWord × ℕ)
next_soft (Some (Soft s n)) = Some (s, n)
next_soft _ = None

abbrev pub next_var : Option Lexeme → Option ℕ
next_var (Some (Var n)) = Some n
next_var _ = None

-- the name of what is a label, of what can be the name of a type, and of the word `child`
abbrev pub next_label : Option Lexeme → Option ℕ
next_label (Some (Word n)) = Some n
next_label (Some (Soft s n)) = Some n
next_label (Some (Quoted n)) = Some n
next_label _ = None

abbrev pub next_tname : Option Lexeme → Option ℕ
next_tname (Some (Word n)) = Some n
next_tname (Some (Soft soft.ChildWord n)) = Some n
next_tname _ = None

abbrev pub next_child : Option Lexeme → Option ℕ
next_child (Some (Soft soft.ChildWord n)) = Some n
next_child _ = None

-- the name of what is a label in a test whatever stands behind it, and of the words that are tests
-- before `(`
abbrev pub next_plain : Option Lexeme → Option ℕ
next_plain (Some (Word n)) = Some n
next_plain (Some (Quoted n)) = Some n
next_plain (Some (Soft soft.AnyWord n)) = Some n
next_plain _ = None

abbrev pub next_typed : Option Lexeme → Option (TestText × ℕ)
next_typed (Some (Soft soft.StringWord n)) = Some (te.OfText, n)
next_typed (Some (Soft soft.BoolWord n)) = Some (te.OfBool, n)
next_typed (Some (Soft soft.IntWord n)) = Some (te.OfInt, n)
next_typed _ = None

-- what the next mark behind a type says
abbrev pub next_repetition : Option Lexeme → Option Repetition
next_repetition (Some (Sign sign.Star)) = Some Star
next_repetition (Some (Sign sign.Plus)) = Some Plus
next_repetition (Some (Sign sign.Question)) = Some Optional
next_repetition _ = None

-- the atom of a literal
abbrev pub next_literal : Option Lexeme → Option Atom
next_literal (Some (Literal a)) = Some a
next_literal _ = None

-- neither a parenthesis, nor a literal, nor a variable
abbrev pub IsOther : Option Lexeme → Type 0
IsOther (Some (Sign sign.Open)) = ⊥
IsOther (Some (Literal a)) = ⊥
IsOther (Some (Var n)) = ⊥
IsOther _ = Unit {0}

-- no piece is left, or a brace closes
abbrev pub IsEnding : Option Lexeme → Type 0
IsEnding None = Unit {0}
IsEnding (Some (Sign sign.CloseBrace)) = Unit {0}
IsEnding _ = ⊥
