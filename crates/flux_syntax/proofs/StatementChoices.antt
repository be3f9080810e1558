-- What is chosen of paths, statements and scripts.
use Rattle.std.proofs.Common.{◌≡◌, ℕ, ◌+◌, List, [], ◌∷◌, Option, Some, None, ◌↔◌, refl, sym, ap, ap₂, subst}
use Rattle.flux_grammar.specs.declared.lexeme.Keyword.TheVariants as key
use Rattle.flux_grammar.specs.declared.lexeme.Lexeme.{Lexeme}
use Rattle.flux_grammar.specs.declared.lexeme.Lexeme.TheVariants.{Reserved, Sign, Var}
use Rattle.flux_grammar.specs.declared.lexeme.Sign.TheVariants as sign
use Rattle.flux_grammar.specs.declared.tree.Expr.{Expr}
use Rattle.flux_grammar.specs.declared.tree.ParamDef.{ParamDef}
use Rattle.flux_grammar.specs.declared.tree.ProcDef.{ProcDef}
use Rattle.flux_calculus.specs.declared.ask.Span.{Span}
use Rattle.flux_grammar.specs.declared.tree.Script.{Script}
use Rattle.flux_grammar.specs.declared.tree.Step.{Step}
use Rattle.flux_grammar.specs.declared.tree.Stmt.{Stmt}
use Rattle.flux_grammar.specs.declared.tree.Stmt.TheVariants as st
use Rattle.flux_grammar.specs.declared.tree.TypeDef.{TypeDef}
use Rattle.flux_grammar.specs.declared.tree.TypeText.{TypeText}
use Rattle.flux_grammar.specs.States.{State}
use Rattle.flux_grammar.specs.Grammar.{Value, spanning, step_of, test, path, slashes, step, spot, filtered, item, items, stmts, nexts, ending, stmt, guard, simple, inserting, placing, deleting, replacing, args, typedefs, procdefs, params, params_on, param, output}
use Rattle.flux_grammar.specs.Machine.{Prog, mark, call, body}
use Rattle.flux_syntax.specs.At.{next_var, IsEnding}
use Rattle.flux_syntax.specs.Steps.{path_and_other}
use Rattle.flux_syntax.proofs.Leads.{Leads}

-- ---- paths

pub no_slashes : (d : ℕ) (h : Option Lexeme) → (h ≡ Some (Sign sign.Slash) → ⊥) → (k : List Step → Prog) → body (slashes d) h k ≡ Some (k [])
no_slashes d (Some (Sign sign.Slash)) n k = absurd (n refl)
no_slashes d _ n k = refl

pub free_step : (d : ℕ) (h : Option Lexeme) → None ≡ next_var h → (k : Step → Prog) → body (step d) h k ≡ Some (call spot (λ χ. call (filtered d) (λ oq. mark (λ e. k (step_of None χ.0 oq χ.1 e)))))
free_step d (Some (Var n)) e k = cc
free_step d _ e k = refl

pub tested_spot : (h : Option Lexeme) → (h ≡ Some (Sign sign.Dot) → ⊥) → (k : Value spot → Prog) → body spot h k ≡ Some (call test (λ φ. k (Some φ.0, φ.1)))
tested_spot (Some (Sign sign.Dot)) n k = absurd (n refl)
tested_spot _ n k = refl

pub no_filter : (d : ℕ) (h : Option Lexeme) → (h ≡ Some (Sign sign.OpenSquare) → ⊥) → (k : Option Expr → Prog) → body (filtered d) h k ≡ Some (k None)
no_filter d (Some (Sign sign.OpenSquare)) n k = absurd (n refl)
no_filter d _ n k = refl

-- ---- statements

pub no_nexts : (d : ℕ) (h : Option Lexeme) → (h ≡ Some (Sign sign.Semicolon) → ⊥) → (k : List Stmt → Prog) → body (nexts d) h k ≡ Some (k [])
no_nexts d (Some (Sign sign.Semicolon)) n k = absurd (n refl)
no_nexts d _ n k = refl

pub ended : (d : ℕ) (h : Option Lexeme) → IsEnding h → (k : List Stmt → Prog) → body (ending d) h k ≡ Some (k [])
ended d None is k = refl
ended d (Some (Sign sign.CloseBrace)) is k = refl
ended d _ is k = absurd is

pub ending_is : (l : Lexeme) → IsEnding (Some l) ↔ (l ≡ Sign sign.CloseBrace)
ending_is l = (only l, λ e. subst (λ l. IsEnding (Some l)) (sym e) tt)
  where
    only : (l : Lexeme) → IsEnding (Some l) → l ≡ Sign sign.CloseBrace
    only (Sign sign.CloseBrace) is = refl
    only _ is = absurd is

pub goes_on : (d : ℕ) (h : Option Lexeme) → (IsEnding h → ⊥) → (k : List Stmt → Prog) → body (ending d) h k ≡ Some (call (stmts d) k)
goes_on d None is k = absurd (is tt)
goes_on d (Some (Sign sign.CloseBrace)) is k = absurd (is tt)
goes_on d _ is k = refl

pub simple_stmt : (d : ℕ) (h : Option Lexeme) → (h ≡ Some (Reserved key.Update) → ⊥) → (h ≡ Some (Reserved key.If) → ⊥) → (h ≡ Some (Reserved key.Let) → ⊥) → (k : Stmt → Prog) → body (stmt d) h k ≡ Some (call (simple (d + 1)) (λ s. call (guard (d + 1) s) k))
simple_stmt d (Some (Reserved key.Update)) f l i k = absurd (f refl)
simple_stmt d (Some (Reserved key.If)) f l i k = absurd (l refl)
simple_stmt d (Some (Reserved key.Let)) f l i k = absurd (i refl)
simple_stmt d _ f l i k = refl

pub unguarded : (d : ℕ) (s : Stmt) (h : Option Lexeme) → (h ≡ Some (Reserved key.Where) → ⊥) → (k : Stmt → Prog) → body (guard d s) h k ≡ Some (k s)
unguarded d s (Some (Reserved key.Where)) n k = absurd (n refl)
unguarded d s _ n k = refl

pub same_guard : {f : (Stmt → Prog) → Prog} {z s : State} {d : ℕ} {t u : Stmt} → t ≡ u → Leads f z (call (guard d u)) s → Leads f z (call (guard d t)) s
same_guard {f = f} {z = z} {s = s} {d = d} e l = subst (λ t. Leads f z (call (guard d t)) s) (sym e) l

pub no_simple : (d : ℕ) (h : Option Lexeme) → (h ≡ Some (Reserved key.Skip) → ⊥) → (h ≡ Some (Reserved key.Insert) → ⊥) → (h ≡ Some (Reserved key.Delete) → ⊥) → (h ≡ Some (Reserved key.Replace) → ⊥) → (h ≡ Some (Reserved key.Rename) → ⊥) → (h ≡ Some (Reserved key.Call) → ⊥) → (h ≡ Some (Sign sign.OpenBrace) → ⊥) → (k : Stmt → Prog) → body (simple d) h k ≡ None
no_simple d (Some (Reserved key.Skip)) a b c e f g h k = absurd (a refl)
no_simple d (Some (Reserved key.Insert)) a b c e f g h k = absurd (b refl)
no_simple d (Some (Reserved key.Delete)) a b c e f g h k = absurd (c refl)
no_simple d (Some (Reserved key.Replace)) a b c e f g h k = absurd (e refl)
no_simple d (Some (Reserved key.Rename)) a b c e f g h k = absurd (f refl)
no_simple d (Some (Reserved key.Call)) a b c e f g h k = absurd (g refl)
no_simple d (Some (Sign sign.OpenBrace)) a b c e f g h k = absurd (h refl)
no_simple d _ a b c e f g h k = refl

pub no_inserting : (d from : ℕ) (h : Option Lexeme) → (h ≡ Some (Reserved key.Value) → ⊥) → (h ≡ Some (Reserved key.Before) → ⊥) → (h ≡ Some (Reserved key.After) → ⊥) → (h ≡ Some (Reserved key.As) → ⊥) → (k : Stmt → Prog) → body (inserting d from) h k ≡ None
no_inserting d from (Some (Reserved key.Value)) a b c e k = absurd (a refl)
no_inserting d from (Some (Reserved key.Before)) a b c e k = absurd (b refl)
no_inserting d from (Some (Reserved key.After)) a b c e k = absurd (c refl)
no_inserting d from (Some (Reserved key.As)) a b c e k = absurd (e refl)
no_inserting d from _ a b c e k = refl

pub no_placing : (d from : ℕ) (h : Option Lexeme) → (h ≡ Some (Reserved key.First) → ⊥) → (h ≡ Some (Reserved key.Last) → ⊥) → (k : Stmt → Prog) → body (placing d from) h k ≡ None
no_placing d from (Some (Reserved key.First)) a b k = absurd (a refl)
no_placing d from (Some (Reserved key.Last)) a b k = absurd (b refl)
no_placing d from _ a b k = refl

pub deletes_path : (d from : ℕ) (h : Option Lexeme) → (h ≡ Some (Reserved key.From) → ⊥) → (k : Stmt → Prog) → body (deleting d from) h k ≡ Some (call (path d) (λ p. mark (λ e. k (st.Delete p (spanning from e)))))
deletes_path d from (Some (Reserved key.From)) n k = absurd (n refl)
deletes_path d from _ n k = refl

pub replaces_path : (d from : ℕ) (h : Option Lexeme) → (h ≡ Some (Reserved key.In) → ⊥) → (k : Stmt → Prog) → body (replacing d from) h k ≡ Some (path_and_other d (λ pq. mark (λ e. k (st.Replace pq.0 pq.1 (spanning from e)))))
replaces_path d from (Some (Reserved key.In)) n k = absurd (n refl)
replaces_path d from _ n k = refl

pub some_args : (d : ℕ) (h : Option Lexeme) → (h ≡ Some (Sign sign.Close) → ⊥) → (h ≡ Some (Sign sign.CloseSquare) → ⊥) → (k : List Expr → Prog) → body (args d) h k ≡ Some (call (item d) (λ q. call (items d) (λ qs. k (q ∷ qs))))
some_args d (Some (Sign sign.Close)) n m k = absurd (n refl)
some_args d (Some (Sign sign.CloseSquare)) n m k = absurd (m refl)
some_args d _ n m k = refl

-- ---- scripts

pub no_typedefs : (h : Option Lexeme) → (h ≡ Some (Reserved key.Type) → ⊥) → (k : List TypeDef → Prog) → body typedefs h k ≡ Some (k [])
no_typedefs (Some (Reserved key.Type)) n k = absurd (n refl)
no_typedefs _ n k = refl

pub no_procdefs : (h : Option Lexeme) → (h ≡ Some (Reserved key.Procedure) → ⊥) → (k : List ProcDef → Prog) → body procdefs h k ≡ Some (k [])
no_procdefs (Some (Reserved key.Procedure)) n k = absurd (n refl)
no_procdefs _ n k = refl

pub some_params : (h : Option Lexeme) → (h ≡ Some (Sign sign.Close) → ⊥) → (h ≡ Some (Sign sign.CloseSquare) → ⊥) → (k : List ParamDef → Prog) → body params h k ≡ Some (call param (λ pm. call params_on (λ pms. k (pm ∷ pms))))
some_params (Some (Sign sign.Close)) n m k = absurd (n refl)
some_params (Some (Sign sign.CloseSquare)) n m k = absurd (m refl)
some_params _ n m k = refl

pub no_params_on : (h : Option Lexeme) → (h ≡ Some (Sign sign.Comma) → ⊥) → (k : List ParamDef → Prog) → body params_on h k ≡ Some (k [])
no_params_on (Some (Sign sign.Comma)) n k = absurd (n refl)
no_params_on _ n k = refl

pub no_output : (h : Option Lexeme) → (h ≡ Some (Reserved key.Output) → ⊥) → (k : Option TypeText → Prog) → body output h k ≡ Some (k None)
no_output (Some (Reserved key.Output)) n k = absurd (n refl)
no_output _ n k = refl

pub with_types : {n : ℕ} {at : Span} {pms : List ParamDef} {t u v w : TypeText} {ss : List Stmt} → t ≡ u → v ≡ w → ◌≡◌ {A = ProcDef} (record { name = n; at = at; params = pms; focus = t; result = v; body = ss }) (record { name = n; at = at; params = pms; focus = u; result = w; body = ss })
with_types {n = n} {at = at} {pms = pms} {ss = ss} e f = ap₂ (λ t v. record { name = n; at = at; params = pms; focus = t; result = v; body = ss }) e f

pub with_input : {ts : List TypeDef} {ps : List ProcDef} {t u : TypeText} {o : Option TypeText} {ss : List Stmt} → t ≡ u → ◌≡◌ {A = Script} (record { types = ts; procs = ps; input = t; output = o; body = ss }) (record { types = ts; procs = ps; input = u; output = o; body = ss })
with_input {ts = ts} {ps = ps} {o = o} {ss = ss} e = ap (λ t. record { types = ts; procs = ps; input = t; output = o; body = ss }) e

pub with_bound : {n : ℕ} {q r : Expr} {at : Span} (s : Stmt) → q ≡ r → st.Let n q s at ≡ st.Let n r s at
with_bound {n = n} {at = at} s e = ap (λ q. st.Let n q s at) e

pub with_test : {q r : Expr} {at : Span} (s t : Stmt) → q ≡ r → st.If q s t at ≡ st.If r s t at
with_test {at = at} s t e = ap (λ q. st.If q s t at) e
