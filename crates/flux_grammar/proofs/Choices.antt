-- What the machine chooses where the next lexeme alone doesn't say it: another part begins here, or
-- none does.
use Rattle.std.proofs.Common.{◌≡◌, ℕ, ◌+◌, ◌<◌, ◌≢◌, List, [], ◌∷◌, Option, Some, None, refl, arith}
use Rattle.flux_calculus.specs.declared.ask.Span.{Span}
use Rattle.flux_grammar.specs.declared.lexeme.Keyword.TheVariants as key
use Rattle.flux_grammar.specs.declared.lexeme.Lexeme.{Lexeme}
use Rattle.flux_grammar.specs.declared.lexeme.Lexeme.TheVariants.{Reserved, Sign, Soft, Var, Literal}
use Rattle.flux_grammar.specs.declared.lexeme.Sign.TheVariants as sign
use Rattle.flux_grammar.specs.declared.lexeme.Soft.TheVariants as soft
use Rattle.flux_grammar.specs.declared.tree.Expr.{Expr}
use Rattle.flux_grammar.specs.declared.tree.Expr.TheVariants as ex
use Rattle.flux_grammar.specs.declared.tree.Mark.{Mark}
use Rattle.flux_grammar.specs.declared.tree.ParamDef.{ParamDef}
use Rattle.flux_grammar.specs.declared.tree.ProcDef.{ProcDef}
use Rattle.flux_grammar.specs.declared.tree.QueryStep.{QueryStep}
use Rattle.flux_grammar.specs.declared.tree.QueryStep.TheVariants as go
use Rattle.flux_grammar.specs.declared.tree.Step.{Step}
use Rattle.flux_grammar.specs.declared.tree.Stmt.{Stmt}
use Rattle.flux_grammar.specs.declared.tree.Stmt.TheVariants as st
use Rattle.flux_grammar.specs.declared.tree.TestText.{TestText}
use Rattle.flux_grammar.specs.declared.tree.TestText.TheVariants as te
use Rattle.flux_grammar.specs.declared.tree.TypeDef.{TypeDef}
use Rattle.flux_grammar.specs.declared.tree.TypeText.{TypeText}
use Rattle.flux_grammar.specs.Grammar.{spanning, step_of, type, alts, seqs, marks, labelled, content, label, test, other, tested, path, slashes, step, spot, filtered, expr, items, item, compared, post, steps, qstep, childed, prim, within, stmts, nexts, ending, stmt, guard, simple, deleting, replacing, args, typedefs, procdefs, params, params_on, param, output}
use Rattle.flux_grammar.specs.Machine.{Prog, take, mark, call, body}
use Rattle.flux_grammar.proofs.Follow.{binds, Closes, Finishes}

pub choose_no_alts : (d : ℕ) (h : Option Lexeme) (k : List TypeText → Prog) →
    6 < binds h →
    body (alts d) h k ≡ Some (k [])
choose_no_alts d (Some (Sign sign.Bar)) k c = absurd (omega arith)
choose_no_alts d _ k c = refl

pub choose_no_seqs : (d : ℕ) (h : Option Lexeme) (k : List TypeText → Prog) →
    5 < binds h →
    body (seqs d) h k ≡ Some (k [])
choose_no_seqs d (Some (Sign sign.Comma)) k c = absurd (omega arith)
choose_no_seqs d _ k c = refl

pub choose_no_marks : (from : ℕ) (h : Option Lexeme) (k : List Mark → Prog) →
    3 < binds h →
    body (marks from) h k ≡ Some (k [])
choose_no_marks from (Some (Sign sign.Star)) k c = absurd (omega arith)
choose_no_marks from (Some (Sign sign.Plus)) k c = absurd (omega arith)
choose_no_marks from (Some (Sign sign.Question)) k c = absurd (omega arith)
choose_no_marks from _ k c = refl

pub choose_alone :
    (d : ℕ) (at : Span) (n : ℕ) (alone : TypeText) (h : Option Lexeme) (k : TypeText → Prog) →
    2 < binds h →
    body (labelled d at n alone) h k ≡ Some (k alone)
choose_alone d at n alone (Some (Sign sign.OpenSquare)) k c = absurd (omega arith)
choose_alone d at n alone _ k c = refl

pub choose_no_content : (d : ℕ) (h : Option Lexeme) (k : Option TypeText → Prog) →
    Closes h →
    body (content d) h k ≡ Some (k None)
choose_no_content d (Some (Sign sign.Close)) k c = refl
choose_no_content d (Some (Sign sign.CloseSquare)) k c = refl
choose_no_content d _ k c = absurd c

pub choose_content : (d : ℕ) (h : Option Lexeme) (k : Option TypeText → Prog) →
    binds h < 20 →
    body (content d) h k ≡ Some (call (type d) (λ t. k (Some t)))
choose_content d (Some (Sign sign.Close)) k c = absurd (omega arith)
choose_content d (Some (Sign sign.CloseSquare)) k c = absurd (omega arith)
choose_content d _ k c = refl

pub choose_test : (h : Option Lexeme) (k : TestText × ℕ → Prog) →
    binds h < 10 →
    body test h k ≡ Some (call other k)
choose_test (Some (Soft soft.ChildWord n)) k c = absurd (omega arith)
choose_test _ k c = refl

pub choose_label_test : (n : ℕ) (typed : TestText) (h : Option Lexeme) (k : TestText → Prog) →
    1 < binds h →
    body (tested n typed) h k ≡ Some (k (te.Label n))
choose_label_test n typed (Some (Sign sign.Open)) k c = absurd (omega arith)
choose_label_test n typed _ k c = refl

pub choose_no_slashes : (d : ℕ) (h : Option Lexeme) (k : List Step → Prog) →
    3 < binds h →
    body (slashes d) h k ≡ Some (k [])
choose_no_slashes d (Some (Sign sign.Slash)) k c = absurd (omega arith)
choose_no_slashes d _ k c = refl

pub choose_step : (d : ℕ) (h : Option Lexeme) (k : Step → Prog) →
    binds h < 17 →
    body (step d) h k ≡ Some (call spot (λ χ. call (filtered d) (λ oq. mark (λ e. k (step_of None
    χ.0 oq χ.1 e)))))
choose_step d (Some (Var n)) k c = absurd (omega arith)
choose_step d _ k c = refl

pub choose_spot : (h : Option Lexeme) (k : Option TestText × ℕ → Prog) →
    binds h < 11 →
    body spot h k ≡ Some (call test (λ φ. k (Some φ.0, φ.1)))
choose_spot (Some (Sign sign.Dot)) k c = absurd (omega arith)
choose_spot _ k c = refl

pub choose_no_filter : (d : ℕ) (h : Option Lexeme) (k : Option Expr → Prog) →
    2 < binds h →
    body (filtered d) h k ≡ Some (k None)
choose_no_filter d (Some (Sign sign.OpenSquare)) k c = absurd (omega arith)
choose_no_filter d _ k c = refl

pub choose_no_items : (d : ℕ) (h : Option Lexeme) (k : List Expr → Prog) →
    5 < binds h →
    body (items d) h k ≡ Some (k [])
choose_no_items d (Some (Sign sign.Comma)) k c = absurd (omega arith)
choose_no_items d _ k c = refl

pub choose_item : (d : ℕ) (h : Option Lexeme) (k : Expr → Prog) →
    binds h < 19 →
    body (item d) h k ≡ Some (call (post (d + 1)) (λ q. call (compared (d + 1) q) k))
choose_item d (Some (Reserved key.QueryFor)) k c = absurd (omega arith)
choose_item d (Some (Reserved key.QueryLet)) k c = absurd (omega arith)
choose_item d (Some (Reserved key.QueryIf)) k c = absurd (omega arith)
choose_item d _ k c = refl

pub choose_uncompared : (d : ℕ) (t : Expr) (h : Option Lexeme) (k : Expr → Prog) →
    4 < binds h →
    body (compared d t) h k ≡ Some (k t)
choose_uncompared d t (Some (Sign sign.Equal)) k c = absurd (omega arith)
choose_uncompared d t (Some (Sign sign.Less)) k c = absurd (omega arith)
choose_uncompared d t _ k c = refl

pub choose_no_steps : (from : ℕ) (h : Option Lexeme) (k : List QueryStep → Prog) →
    3 < binds h →
    body (steps from) h k ≡ Some (k [])
choose_no_steps from (Some (Sign sign.Slash)) k c = absurd (omega arith)
choose_no_steps from (Some (Sign sign.DoubleColon)) k c = absurd (omega arith)
choose_no_steps from _ k c = refl

pub choose_down : (from : ℕ) (h : Option Lexeme) (k : QueryStep → Prog) →
    binds h < 10 →
    body (qstep from) h k ≡ Some (call other (λ φ. mark (λ e. k (go.Down φ.0 (spanning from e)))))
choose_down from (Some (Soft soft.ChildWord n)) k c = absurd (omega arith)
choose_down from _ k c = refl

pub choose_down_child : (from : ℕ) (n : ℕ) (h : Option Lexeme) (k : QueryStep → Prog) →
    1 < binds h →
    body (childed from n) h k ≡ Some (mark (λ e. k (go.Down (te.Label n) (spanning from e))))
choose_down_child from n (Some (Sign sign.Open)) k c = absurd (omega arith)
choose_down_child from n _ k c = refl

pub choose_element : (d : ℕ) (h : Option Lexeme) (k : Expr → Prog) →
    (8 < binds h) × (binds h < 11) →
    body (prim d) h k ≡ Some (call label (λ n. take (Sign sign.OpenSquare) (λ y. call (within d) (λ
    oq. take (Sign sign.CloseSquare) (λ z. k (ex.Elem n.0 oq (spanning n.1.from z.span.to)))))))
choose_element d (Some (Sign sign.Open)) k c = absurd (omega (arith, c.0, c.1))
choose_element d (Some (Literal atom)) k c = absurd (omega (arith, c.0, c.1))
choose_element d (Some (Var n)) k c = absurd (omega (arith, c.0, c.1))
choose_element d _ k c = refl

pub choose_no_within : (d : ℕ) (h : Option Lexeme) (k : Option Expr → Prog) →
    Closes h →
    body (within d) h k ≡ Some (k None)
choose_no_within d (Some (Sign sign.Close)) k c = refl
choose_no_within d (Some (Sign sign.CloseSquare)) k c = refl
choose_no_within d _ k c = absurd c

pub choose_within : (d : ℕ) (h : Option Lexeme) (k : Option Expr → Prog) →
    binds h < 20 →
    body (within d) h k ≡ Some (call (expr d) (λ q. k (Some q)))
choose_within d (Some (Sign sign.Close)) k c = absurd (omega arith)
choose_within d (Some (Sign sign.CloseSquare)) k c = absurd (omega arith)
choose_within d _ k c = refl

pub choose_no_nexts : (d : ℕ) (h : Option Lexeme) (k : List Stmt → Prog) →
    Finishes h →
    body (nexts d) h k ≡ Some (k [])
choose_no_nexts d (Some (Sign sign.Semicolon)) k c = absurd c
choose_no_nexts d _ k c = refl

pub choose_ended : (d : ℕ) (h : Option Lexeme) (k : List Stmt → Prog) →
    Finishes h →
    body (ending d) h k ≡ Some (k [])
choose_ended d None k c = refl
choose_ended d (Some (Sign sign.CloseBrace)) k c = refl
choose_ended d _ k c = absurd c

pub choose_going_on : (d : ℕ) (h : Option Lexeme) (k : List Stmt → Prog) →
    binds h < 20 →
    body (ending d) h k ≡ Some (call (stmts d) k)
choose_going_on d None k c = absurd (omega arith)
choose_going_on d (Some (Sign sign.CloseBrace)) k c = absurd (omega arith)
choose_going_on d _ k c = refl

pub choose_stmt : (d : ℕ) (h : Option Lexeme) (k : Stmt → Prog) →
    binds h < 14 →
    body (stmt d) h k ≡ Some (call (simple (d + 1)) (λ s. call (guard (d + 1) s) k))
choose_stmt d (Some (Reserved key.Update)) k c = absurd (omega arith)
choose_stmt d (Some (Reserved key.If)) k c = absurd (omega arith)
choose_stmt d (Some (Reserved key.Let)) k c = absurd (omega arith)
choose_stmt d _ k c = refl

pub choose_unguarded : (d : ℕ) (s : Stmt) (h : Option Lexeme) (k : Stmt → Prog) →
    7 < binds h →
    body (guard d s) h k ≡ Some (k s)
choose_unguarded d s (Some (Reserved key.Where)) k c = absurd (omega arith)
choose_unguarded d s _ k c = refl

pub choose_delete_path : (d : ℕ) (from : ℕ) (h : Option Lexeme) (k : Stmt → Prog) →
    binds h < 19 →
    body (deleting d from) h k ≡ Some (call (path d) (λ p. mark (λ e. k (st.Delete p (spanning from
    e)))))
choose_delete_path d from (Some (Reserved key.From)) k c = absurd (omega arith)
choose_delete_path d from _ k c = refl

pub choose_replace_path : (d : ℕ) (from : ℕ) (h : Option Lexeme) (k : Stmt → Prog) →
    binds h < 19 →
    body (replacing d from) h k ≡ Some (call (path d) (λ p. take (Reserved key.With) (λ y. call
    (expr d) (λ q. mark (λ e. k (st.Replace p q (spanning from e)))))))
choose_replace_path d from (Some (Reserved key.In)) k c = absurd (omega arith)
choose_replace_path d from _ k c = refl

pub choose_no_args : (d : ℕ) (h : Option Lexeme) (k : List Expr → Prog) →
    Closes h →
    body (args d) h k ≡ Some (k [])
choose_no_args d (Some (Sign sign.Close)) k c = refl
choose_no_args d (Some (Sign sign.CloseSquare)) k c = refl
choose_no_args d _ k c = absurd c

pub choose_args : (d : ℕ) (h : Option Lexeme) (k : List Expr → Prog) →
    binds h < 20 →
    body (args d) h k ≡ Some (call (item d) (λ q. call (items d) (λ qs. k (q ∷ qs))))
choose_args d (Some (Sign sign.Close)) k c = absurd (omega arith)
choose_args d (Some (Sign sign.CloseSquare)) k c = absurd (omega arith)
choose_args d _ k c = refl

pub choose_no_typedefs : (h : Option Lexeme) (k : List TypeDef → Prog) →
    binds h ≢ 24 →
    body typedefs h k ≡ Some (k [])
choose_no_typedefs (Some (Reserved key.Type)) k c = absurd (omega arith)
choose_no_typedefs _ k c = refl

pub choose_no_procdefs : (h : Option Lexeme) (k : List ProcDef → Prog) →
    binds h < 24 →
    body procdefs h k ≡ Some (k [])
choose_no_procdefs (Some (Reserved key.Procedure)) k c = absurd (omega arith)
choose_no_procdefs _ k c = refl

pub choose_no_params : (h : Option Lexeme) (k : List ParamDef → Prog) →
    Closes h →
    body params h k ≡ Some (k [])
choose_no_params (Some (Sign sign.Close)) k c = refl
choose_no_params (Some (Sign sign.CloseSquare)) k c = refl
choose_no_params _ k c = absurd c

pub choose_params : (h : Option Lexeme) (k : List ParamDef → Prog) →
    binds h < 20 →
    body params h k ≡ Some (call param (λ pm. call params_on (λ pms. k (pm ∷ pms))))
choose_params (Some (Sign sign.Close)) k c = absurd (omega arith)
choose_params (Some (Sign sign.CloseSquare)) k c = absurd (omega arith)
choose_params _ k c = refl

pub choose_no_params_on : (h : Option Lexeme) (k : List ParamDef → Prog) →
    Closes h →
    body params_on h k ≡ Some (k [])
choose_no_params_on (Some (Sign sign.Comma)) k c = absurd c
choose_no_params_on _ k c = refl

pub choose_no_output : (h : Option Lexeme) (k : Option TypeText → Prog) →
    binds h ≡ 15 →
    body output h k ≡ Some (k None)
choose_no_output (Some (Reserved key.Output)) k c = absurd (omega arith)
choose_no_output _ k c = refl
