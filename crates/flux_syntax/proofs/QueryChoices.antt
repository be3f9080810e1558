-- What is chosen of queries.
use Rattle.std.proofs.Common.{◌≡◌, ℕ, ◌+◌, List, [], Option, Some, None, Result, refl, sym, ap, subst}
use Rattle.std.proofs.lemmas.Option.{same_Some}
use Rattle.flux_atom.specs.declared.atom.Atom.{Atom}
use Rattle.flux_grammar.specs.declared.lexeme.Keyword.TheVariants as key
use Rattle.flux_grammar.specs.declared.lexeme.Lexeme.{Lexeme}
use Rattle.flux_grammar.specs.declared.lexeme.Lexeme.TheVariants.{Reserved, Sign, Soft, Var, Literal}
use Rattle.flux_grammar.specs.declared.lexeme.Sign.TheVariants as sign
use Rattle.flux_grammar.specs.declared.lexeme.Soft.TheVariants as soft
use Rattle.flux_grammar.specs.declared.tree.Expr.{Expr}
use Rattle.flux_grammar.specs.declared.tree.Expr.TheVariants as ex
use Rattle.flux_grammar.specs.declared.tree.QueryStep.{QueryStep}
use Rattle.flux_grammar.specs.declared.tree.QueryStep.TheVariants as go
use Rattle.flux_grammar.specs.declared.tree.TestText.TheVariants as te
use Rattle.flux_grammar.specs.States.{State}
use Rattle.flux_grammar.specs.Grammar.{spanning, label, other, expr, items, item, compared, post, steps, qstep, childed, prim, within}
use Rattle.flux_grammar.specs.Machine.{Prog, take, mark, call, body}
use Rattle.flux_syntax.specs.At.{next_child, next_var, next_literal, IsOther}
use Rattle.flux_syntax.specs.declared.reader.Fault.{Fault}
use Rattle.flux_syntax.specs.Parses.{Parses}

pub var_here : (h : Option Lexeme) (n : ℕ) → Some n ≡ next_var h → h ≡ Some (Var n)
var_here (Some (Var m)) n e = ap (λ m. Some (Var m)) (same_Some m n (sym e))
var_here _ n e = cc

pub literal_here : (h : Option Lexeme) (a : Atom) → Some a ≡ next_literal h → h ≡ Some (Literal a)
literal_here (Some (Literal b)) a e = ap (λ x. Some (Literal x)) (same_Some b a (sym e))
literal_here _ a e = cc

pub no_items : (d : ℕ) (h : Option Lexeme) → (h ≡ Some (Sign sign.Comma) → ⊥) → (k : List Expr → Prog) → body (items d) h k ≡ Some (k [])
no_items d (Some (Sign sign.Comma)) n k = absurd (n refl)
no_items d _ n k = refl

pub plain_item : (d : ℕ) (h : Option Lexeme) → (h ≡ Some (Reserved key.QueryFor) → ⊥) → (h ≡ Some (Reserved key.QueryLet) → ⊥) → (h ≡ Some (Reserved key.QueryIf) → ⊥) → (k : Expr → Prog) → body (item d) h k ≡ Some (call (post (d + 1)) (λ q. call (compared (d + 1) q) k))
plain_item d (Some (Reserved key.QueryFor)) f l i k = absurd (f refl)
plain_item d (Some (Reserved key.QueryLet)) f l i k = absurd (l refl)
plain_item d (Some (Reserved key.QueryIf)) f l i k = absurd (i refl)
plain_item d _ f l i k = refl

pub uncompared : (d : ℕ) (q : Expr) (h : Option Lexeme) → (h ≡ Some (Sign sign.Equal) → ⊥) → (h ≡ Some (Sign sign.Less) → ⊥) → (k : Expr → Prog) → body (compared d q) h k ≡ Some (k q)
uncompared d q (Some (Sign sign.Equal)) n m k = absurd (n refl)
uncompared d q (Some (Sign sign.Less)) n m k = absurd (m refl)
uncompared d q _ n m k = refl

pub no_steps : (from : ℕ) (h : Option Lexeme) → (h ≡ Some (Sign sign.Slash) → ⊥) → (h ≡ Some (Sign sign.DoubleColon) → ⊥) → (k : List QueryStep → Prog) → body (steps from) h k ≡ Some (k [])
no_steps from (Some (Sign sign.Slash)) n m k = absurd (n refl)
no_steps from (Some (Sign sign.DoubleColon)) n m k = absurd (m refl)
no_steps from _ n m k = refl

-- the steps behind a query that begins there
pub steps_from : {a b : ℕ} (s s' : State) (r : Result (List QueryStep) Fault) → a ≡ b → Parses (steps a) s s' r → Parses (steps b) s s' r
steps_from s s' r same h = subst (λ n. Parses (steps n) s s' r) same h

pub plain_step : (from : ℕ) (h : Option Lexeme) → None ≡ next_child h → (k : QueryStep → Prog) → body (qstep from) h k ≡ Some (call other (λ φ. mark (λ e. k (go.Down φ.0 (spanning from e)))))
plain_step from (Some (Soft soft.ChildWord n)) e k = cc
plain_step from _ e k = refl

pub child_label : (from n : ℕ) (h : Option Lexeme) → (h ≡ Some (Sign sign.Open) → ⊥) → (k : QueryStep → Prog) → body (childed from n) h k ≡ Some (mark (λ e. k (go.Down (te.Label n) (spanning from e))))
child_label from n (Some (Sign sign.Open)) f k = absurd (f refl)
child_label from n _ f k = refl

pub is_other : (h : Option Lexeme) → (h ≡ Some (Sign sign.Open) → ⊥) → None ≡ next_var h → None ≡ next_literal h → IsOther h
is_other (Some (Sign sign.Open)) n e f = n refl
is_other (Some (Var m)) n e f = cc
is_other (Some (Literal a)) n e f = cc
is_other _ n e f = tt

pub element_here : (d : ℕ) (h : Option Lexeme) → IsOther h → (k : Expr → Prog) → body (prim d) h k ≡ Some (call label (λ n. take (Sign sign.OpenSquare) (λ y. call (within d) (λ oq. take (Sign sign.CloseSquare) (λ z. k (ex.Elem n.0 oq (spanning n.1.from z.span.to)))))))
element_here d (Some (Sign sign.Open)) is k = absurd is
element_here d (Some (Literal a)) is k = absurd is
element_here d (Some (Var n)) is k = absurd is
element_here d _ is k = refl

pub some_within : (d : ℕ) (h : Option Lexeme) → (h ≡ Some (Sign sign.Close) → ⊥) → (h ≡ Some (Sign sign.CloseSquare) → ⊥) → (k : Option Expr → Prog) → body (within d) h k ≡ Some (call (expr d) (λ q. k (Some q)))
some_within d (Some (Sign sign.Close)) n m k = absurd (n refl)
some_within d (Some (Sign sign.CloseSquare)) n m k = absurd (m refl)
some_within d _ n m k = refl
