-- What the machine chooses where the next lexeme is not one of some, and what the next one is.
use Rattle.std.proofs.Common.{◌≡◌, ◌↔◌, ℕ, List, [], ◌∷◌, Option, Some, None, Result, Bool, true, false, IsTrue, refl, subst}
use Rattle.std.proofs.lemmas.Option.{same_Some}
use Rattle.flux_calculus.specs.declared.ask.Span.{Span}
use Rattle.flux_grammar.specs.declared.lexeme.Lexeme.{Lexeme}
use Rattle.flux_grammar.specs.declared.lexeme.Lexeme.TheVariants.{Sign, Word, Soft, Quoted}
use Rattle.flux_grammar.specs.declared.lexeme.Sign.{Sign as SignKind}
use Rattle.flux_grammar.specs.declared.lexeme.Sign.TheVariants as sign
use Rattle.flux_grammar.specs.declared.tree.Mark.{Mark}
use Rattle.flux_grammar.specs.declared.tree.Repetition.{Repetition}
use Rattle.flux_grammar.specs.declared.tree.Repetition.TheVariants.{Star, Plus, Optional}
use Rattle.flux_grammar.specs.declared.tree.TypeText.{TypeText}
use Rattle.flux_grammar.specs.States.{State}
use Rattle.flux_grammar.specs.Grammar.{mark_of, type, alts, seqs, marks, tatom, labelled, content}
use Rattle.flux_grammar.specs.Machine.{Prog, take, call, body}
use Rattle.flux_syntax.specs.At.{next_word, next_quoted, next_soft, next_repetition}
use Rattle.flux_syntax.specs.declared.reader.Fault.{Fault}
use Rattle.flux_syntax.specs.Parses.{Parses}

-- ---- the next lexeme

pub is_here : {b : Bool} {P : Type 0} → IsTrue b ↔ P → b ≡ true → P
is_here here e = here.0 e

pub not_here : {b : Bool} {P : Type 0} → IsTrue b ↔ P → b ≡ false → P → ⊥
not_here here e p = let yes = here.1 p in cc

pub quoted_here : (h : Option Lexeme) (n : ℕ) → Some n ≡ next_quoted h → h ≡ Some (Quoted n)
quoted_here (Some (Quoted m)) n e = cc
quoted_here _ n e = cc

pub word_here : (h : Option Lexeme) (n : ℕ) → Some n ≡ next_word h → h ≡ Some (Word n)
word_here (Some (Word m)) n e = cc
word_here _ n e = cc

-- ---- types

pub no_bar : (d : ℕ) (h : Option Lexeme) → (h ≡ Some (Sign sign.Bar) → ⊥) → (k : List TypeText → Prog) → body (alts d) h k ≡ Some (k [])
no_bar d (Some (Sign sign.Bar)) n k = absurd (n refl)
no_bar d _ n k = refl

pub no_comma : (d : ℕ) (h : Option Lexeme) → (h ≡ Some (Sign sign.Comma) → ⊥) → (k : List TypeText → Prog) → body (seqs d) h k ≡ Some (k [])
no_comma d (Some (Sign sign.Comma)) n k = absurd (n refl)
no_comma d _ n k = refl

abbrev pub mark_sign : Repetition → SignKind
mark_sign Star = sign.Star
mark_sign Plus = sign.Plus
mark_sign Optional = sign.Question

pub mark_here : (h : Option Lexeme) (r : Repetition) → Some r ≡ next_repetition h → h ≡ Some (Sign (mark_sign r))
mark_here (Some (Sign sign.Star)) r e = let f = same_Some r Star e in cc
mark_here (Some (Sign sign.Plus)) r e = let f = same_Some r Plus e in cc
mark_here (Some (Sign sign.Question)) r e = let f = same_Some r Optional e in cc
mark_here _ r e = cc

pub no_mark : (from : ℕ) (h : Option Lexeme) → None ≡ next_repetition h → (k : List Mark → Prog) → body (marks from) h k ≡ Some (k [])
no_mark from (Some (Sign sign.Star)) e k = cc
no_mark from (Some (Sign sign.Plus)) e k = cc
no_mark from (Some (Sign sign.Question)) e k = cc
no_mark from _ e k = refl

pub next_mark_read : (from : ℕ) (r : Repetition) (k : List Mark → Prog) → body (marks from) (Some (Sign (mark_sign r))) k ≡ Some (take (Sign (mark_sign r)) (λ x. call (marks from) (λ ms. k (mark_of r from x.span.to ∷ ms))))
next_mark_read from Star k = refl
next_mark_read from Plus k = refl
next_mark_read from Optional k = refl

-- the marks behind a type that begins there
pub marks_from : {a b : ℕ} (s s' : State) (r : Result (List Mark) Fault) → a ≡ b → Parses (marks a) s s' r → Parses (marks b) s s' r
marks_from s s' r same h = subst (λ n. Parses (marks n) s s' r) same h

pub no_atom : (d : ℕ) (h : Option Lexeme) → (h ≡ Some (Sign sign.Open) → ⊥) → None ≡ next_quoted h → None ≡ next_soft h → None ≡ next_word h → (k : TypeText → Prog) → body (tatom d) h k ≡ None
no_atom d (Some (Sign sign.Open)) n e f g k = absurd (n refl)
no_atom d (Some (Quoted m)) n e f g k = cc
no_atom d (Some (Soft s m)) n e f g k = cc
no_atom d (Some (Word m)) n e f g k = cc
no_atom d _ n e f g k = refl

pub alone_here : (d : ℕ) (at : Span) (n : ℕ) (alone : TypeText) (h : Option Lexeme) → (h ≡ Some (Sign sign.OpenSquare) → ⊥) → (k : TypeText → Prog) → body (labelled d at n alone) h k ≡ Some (k alone)
alone_here d at n alone (Some (Sign sign.OpenSquare)) f k = absurd (f refl)
alone_here d at n alone _ f k = refl

pub some_content : (d : ℕ) (h : Option Lexeme) → (h ≡ Some (Sign sign.Close) → ⊥) → (h ≡ Some (Sign sign.CloseSquare) → ⊥) → (k : Option TypeText → Prog) → body (content d) h k ≡ Some (call (type d) (λ t. k (Some t)))
some_content d (Some (Sign sign.Close)) n m k = absurd (n refl)
some_content d (Some (Sign sign.CloseSquare)) n m k = absurd (m refl)
some_content d _ n m k = refl
