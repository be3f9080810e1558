-- A machine that reads by the next lexeme alone: what is still to be read is a program that takes
-- pieces and goes on with what it took. It says nothing of its own about scripts: laws say that it
-- reads as the grammar does.
use Rattle.std.specs.Prelude.{◌≡◌, ℕ, ◌+◌, [], ◌∷◌, Option, Some, None}
use Rattle.flux_atom.specs.declared.atom.AtomKind.TheVariants as kind
use Rattle.flux_grammar.specs.declared.lexeme.Keyword.TheVariants as key
use Rattle.flux_grammar.specs.declared.lexeme.Lexeme.{Lexeme}
use Rattle.flux_grammar.specs.declared.lexeme.Lexeme.TheVariants.{Reserved, Sign, Word, Soft, Quoted, Var, Literal}
use Rattle.flux_grammar.specs.declared.lexeme.Piece.{Piece}
use Rattle.flux_grammar.specs.declared.lexeme.Sign.TheVariants as sign
use Rattle.flux_grammar.specs.declared.lexeme.Soft.TheVariants as soft
use Rattle.flux_grammar.specs.declared.tree.Expr.TheVariants as ex
use Rattle.flux_grammar.specs.declared.tree.QueryStep.TheVariants as go
use Rattle.flux_grammar.specs.declared.tree.Repetition.TheVariants as re
use Rattle.flux_grammar.specs.declared.tree.Stmt.TheVariants as st
use Rattle.flux_grammar.specs.declared.tree.TestText.TheVariants as te
use Rattle.flux_grammar.specs.declared.tree.TypeText.TheVariants as ty
use Rattle.flux_grammar.specs.Spans.{type_span, expr_span, stmt_span}
use Rattle.flux_grammar.specs.States.{State, end, head, Takes}
use Rattle.flux_grammar.specs.Grammar.{Free, spanning, alt_of, seq_of, list_of, mark_of, marked_of, stepped_of, step_of, Part, type, alts, tseq, seqs, tpost, marks, tatom, labelled, content, label, tname, var, test, other, tested, path, slashes, step, spot, filtered, expr, items, item, compared, post, steps, qstep, childed, prim, within, stmts, nexts, ending, stmt, guard, simple, inserting, placing, deleting, replacing, args, typedefs, typedef, procdefs, procdef, params, params_on, param, output, script, Value}

pub data Prog : Type 0 where
  done : (p : Part) → Value p → Prog
  take : Lexeme → (Piece → Prog) → Prog
  mark : (ℕ → Prog) → Prog
  call : (p : Part) → (Value p → Prog) → Prog

-- how a part is read, by the next lexeme alone, and what comes behind it
abbrev pub body : (p : Part) → Option Lexeme → (Value p → Prog) → Option Prog
body (type d) h k =
    Some (call (tseq (d + 1)) (λ t. call (alts (d + 1)) (λ ts. mark (λ e. k (alt_of t ts e)))))
body (alts d) (Some (Sign sign.Bar)) k =
    Some (take (Sign sign.Bar) (λ x. call (tseq d) (λ t. call (alts d) (λ ts. k (t ∷ ts)))))
body (alts d) _ k = Some (k [])
body (tseq d) h k = Some (call (tpost d) (λ t. call (seqs d) (λ ts. mark (λ e. k (seq_of t ts e)))))
body (seqs d) (Some (Sign sign.Comma)) k =
    Some (take (Sign sign.Comma) (λ x. call (tpost d) (λ t. call (seqs d) (λ ts. k (t ∷ ts)))))
body (seqs d) _ k = Some (k [])
body (tpost d) h k =
    Some (call (tatom d) (λ t. call (marks (type_span t).from) (λ ms. mark (λ e. k (marked_of t ms
    e)))))
body (marks from) (Some (Sign sign.Star)) k =
    Some (take (Sign sign.Star) (λ x. call (marks from) (λ ms. k (mark_of re.Star from x.span.to ∷
    ms))))
body (marks from) (Some (Sign sign.Plus)) k =
    Some (take (Sign sign.Plus) (λ x. call (marks from) (λ ms. k (mark_of re.Plus from x.span.to ∷
    ms))))
body (marks from) (Some (Sign sign.Question)) k =
    Some (take (Sign sign.Question) (λ x. call (marks from) (λ ms. k (mark_of re.Optional from
    x.span.to ∷ ms))))
body (marks from) _ k = Some (k [])
body (tatom d) (Some (Sign sign.Open)) k =
    Some (take (Sign sign.Open) (λ x. call (content d) (λ o. take (Sign sign.Close) (λ y. k
    (ty.Group o (spanning x.span.from y.span.to))))))
body (tatom d) (Some (Quoted n)) k =
    Some (take (Quoted n) (λ x. take (Sign sign.OpenSquare) (λ y. call (content d) (λ o. take (Sign
    sign.CloseSquare) (λ z. k (ty.Elem n o (spanning x.span.from z.span.to)))))))
body (tatom d) (Some (Soft soft.AnyWord n)) k =
    Some (take (Soft soft.AnyWord n) (λ x. take (Sign sign.OpenSquare) (λ y. call (content d) (λ o.
    take (Sign sign.CloseSquare) (λ z. k (ty.AnyElem o (spanning x.span.from z.span.to)))))))
body (tatom d) (Some (Soft soft.StringWord n)) k =
    Some (take (Soft soft.StringWord n) (λ x. call (labelled d x.span n (ty.Kind kind.Text x.span))
    k))
body (tatom d) (Some (Soft soft.BoolWord n)) k =
    Some (take (Soft soft.BoolWord n) (λ x. call (labelled d x.span n (ty.Kind kind.Bool x.span))
    k))
body (tatom d) (Some (Soft soft.IntWord n)) k =
    Some (take (Soft soft.IntWord n) (λ x. call (labelled d x.span n (ty.Kind kind.Int x.span)) k))
body (tatom d) (Some (Word n)) k =
    Some (take (Word n) (λ x. call (labelled d x.span n (ty.Named n x.span)) k))
body (tatom d) (Some (Soft soft.ChildWord n)) k =
    Some (take (Soft soft.ChildWord n) (λ x. call (labelled d x.span n (ty.Named n x.span)) k))
body (tatom d) _ k = None
body (labelled d at n alone) (Some (Sign sign.OpenSquare)) k =
    Some (take (Sign sign.OpenSquare) (λ y. call (content d) (λ o. take (Sign sign.CloseSquare) (λ
    z. k (ty.Elem n o (spanning at.from z.span.to))))))
body (labelled d at n alone) _ k = Some (k alone)
body (content d) (Some (Sign sign.Close)) k = Some (k None)
body (content d) (Some (Sign sign.CloseSquare)) k = Some (k None)
body (content d) _ k = Some (call (type d) (λ t. k (Some t)))
body label (Some (Word n)) k = Some (take (Word n) (λ x. k (n, x.span)))
body label (Some (Soft so n)) k = Some (take (Soft so n) (λ x. k (n, x.span)))
body label (Some (Quoted n)) k = Some (take (Quoted n) (λ x. k (n, x.span)))
body label _ k = None
body tname (Some (Word n)) k = Some (take (Word n) (λ x. k (n, x.span)))
body tname (Some (Soft soft.ChildWord n)) k =
    Some (take (Soft soft.ChildWord n) (λ x. k (n, x.span)))
body tname _ k = None
body var (Some (Var n)) k = Some (take (Var n) (λ x. k (n, x.span)))
body var _ k = None
body test (Some (Soft soft.ChildWord n)) k =
    Some (take (Soft soft.ChildWord n) (λ x. k (te.Label n, x.span.from)))
body test _ k = Some (call other k)
body other (Some (Word n)) k = Some (take (Word n) (λ x. k (te.Label n, x.span.from)))
body other (Some (Quoted n)) k = Some (take (Quoted n) (λ x. k (te.Label n, x.span.from)))
body other (Some (Soft soft.AnyWord n)) k =
    Some (take (Soft soft.AnyWord n) (λ x. k (te.Label n, x.span.from)))
body other (Some (Sign sign.Star)) k =
    Some (take (Sign sign.Star) (λ x. k (te.AnyElement, x.span.from)))
body other (Some (Soft soft.StringWord n)) k =
    Some (take (Soft soft.StringWord n) (λ x. call (tested n te.OfText) (λ ψ. k (ψ, x.span.from))))
body other (Some (Soft soft.BoolWord n)) k =
    Some (take (Soft soft.BoolWord n) (λ x. call (tested n te.OfBool) (λ ψ. k (ψ, x.span.from))))
body other (Some (Soft soft.IntWord n)) k =
    Some (take (Soft soft.IntWord n) (λ x. call (tested n te.OfInt) (λ ψ. k (ψ, x.span.from))))
body other _ k = None
body (tested n typed) (Some (Sign sign.Open)) k =
    Some (take (Sign sign.Open) (λ x. take (Sign sign.Close) (λ y. k typed)))
body (tested n typed) _ k = Some (k (te.Label n))
body (path d) h k =
    Some (call (step d) (λ sp. call (slashes d) (λ ps. k (record { steps = sp ∷ ps }))))
body (slashes d) (Some (Sign sign.Slash)) k =
    Some (take (Sign sign.Slash) (λ x. call (step d) (λ sp. call (slashes d) (λ ps. k (sp ∷ ps)))))
body (slashes d) _ k = Some (k [])
body (step d) (Some (Var n)) k =
    Some (take (Var n) (λ x. take (Reserved key.As) (λ y. call spot (λ χ. call (filtered d) (λ oq.
    mark (λ e. k (step_of (Some n) χ.0 oq x.span.from e)))))))
body (step d) _ k =
    Some (call spot (λ χ. call (filtered d) (λ oq. mark (λ e. k (step_of None χ.0 oq χ.1 e)))))
body spot (Some (Sign sign.Dot)) k = Some (take (Sign sign.Dot) (λ x. k (None, x.span.from)))
body spot _ k = Some (call test (λ φ. k (Some φ.0, φ.1)))
body (filtered d) (Some (Sign sign.OpenSquare)) k =
    Some (take (Sign sign.OpenSquare) (λ x. call (expr d) (λ q. take (Sign sign.CloseSquare) (λ y. k
    (Some q)))))
body (filtered d) _ k = Some (k None)
body (expr d) h k =
    Some (call (item d) (λ q. call (items d) (λ qs. mark (λ e. k (list_of q qs e)))))
body (items d) (Some (Sign sign.Comma)) k =
    Some (take (Sign sign.Comma) (λ x. call (item d) (λ q. call (items d) (λ qs. k (q ∷ qs)))))
body (items d) _ k = Some (k [])
body (item d) (Some (Reserved key.QueryFor)) k =
    Some (take (Reserved key.QueryFor) (λ x. call var (λ n. take (Reserved key.QueryIn) (λ y. call
    (expr (d + 1)) (λ q. take (Reserved key.QueryReturn) (λ z. call (item (d + 1)) (λ v. mark (λ
    e. k (ex.For n.0 q v (spanning x.span.from e))))))))))
body (item d) (Some (Reserved key.QueryLet)) k =
    Some (take (Reserved key.QueryLet) (λ x. call var (λ n. take (Sign sign.Equal) (λ y. call (expr
    (d + 1)) (λ q. take (Reserved key.QueryIn) (λ z. call (item (d + 1)) (λ v. mark (λ e. k
    (ex.Let n.0 q v (spanning x.span.from e))))))))))
body (item d) (Some (Reserved key.QueryIf)) k =
    Some (take (Reserved key.QueryIf) (λ x. call (expr (d + 1)) (λ q. take (Reserved key.QueryThen)
    (λ y. call (item (d + 1)) (λ v. take (Reserved key.QueryElse) (λ z. call (item (d + 1)) (λ u.
    mark (λ e. k (ex.If q v u (spanning x.span.from e))))))))))
body (item d) _ k = Some (call (post (d + 1)) (λ q. call (compared (d + 1) q) k))
body (compared d t) (Some (Sign sign.Equal)) k =
    Some (take (Sign sign.Equal) (λ x. call (post d) (λ v. mark (λ e. k (ex.Same t v (spanning
    (expr_span t).from e))))))
body (compared d t) (Some (Sign sign.Less)) k =
    Some (take (Sign sign.Less) (λ x. call (post d) (λ v. mark (λ e. k (ex.Less t v (spanning
    (expr_span t).from e))))))
body (compared d t) _ k = Some (k t)
body (post d) h k =
    Some (call (prim d) (λ q. call (steps (expr_span q).from) (λ ss. mark (λ e. k (stepped_of q ss
    e)))))
body (steps from) (Some (Sign sign.Slash)) k =
    Some (take (Sign sign.Slash) (λ x. call (qstep from) (λ s. call (steps from) (λ ss. k (s ∷
    ss)))))
body (steps from) (Some (Sign sign.DoubleColon)) k =
    Some (take (Sign sign.DoubleColon) (λ x. call test (λ φ. mark (λ e. call (steps from) (λ ss. k
    (go.Filter φ.0 (spanning from e) ∷ ss))))))
body (steps from) _ k = Some (k [])
body (qstep from) (Some (Soft soft.ChildWord n)) k =
    Some (take (Soft soft.ChildWord n) (λ x. call (childed from n) k))
body (qstep from) _ k = Some (call other (λ φ. mark (λ e. k (go.Down φ.0 (spanning from e)))))
body (childed from n) (Some (Sign sign.Open)) k =
    Some (take (Sign sign.Open) (λ x. take (Sign sign.Close) (λ y. k (go.Child (spanning from
    y.span.to)))))
body (childed from n) _ k = Some (mark (λ e. k (go.Down (te.Label n) (spanning from e))))
body (prim d) (Some (Sign sign.Open)) k =
    Some (take (Sign sign.Open) (λ x. call (within d) (λ oq. take (Sign sign.Close) (λ y. k
    (ex.Group oq (spanning x.span.from y.span.to))))))
body (prim d) (Some (Literal atom)) k = Some (take (Literal atom) (λ x. k (ex.Lit atom x.span)))
body (prim d) (Some (Var n)) k = Some (take (Var n) (λ x. k (ex.Var n x.span)))
body (prim d) _ k =
    Some (call label (λ n. take (Sign sign.OpenSquare) (λ y. call (within d) (λ oq. take (Sign
    sign.CloseSquare) (λ z. k (ex.Elem n.0 oq (spanning n.1.from z.span.to)))))))
body (within d) (Some (Sign sign.Close)) k = Some (k None)
body (within d) (Some (Sign sign.CloseSquare)) k = Some (k None)
body (within d) _ k = Some (call (expr d) (λ q. k (Some q)))
body (stmts d) h k = Some (call (stmt d) (λ s. call (nexts d) (λ ss. k (s ∷ ss))))
body (nexts d) (Some (Sign sign.Semicolon)) k =
    Some (take (Sign sign.Semicolon) (λ x. call (ending d) k))
body (nexts d) _ k = Some (k [])
body (ending d) None k = Some (k [])
body (ending d) (Some (Sign sign.CloseBrace)) k = Some (k [])
body (ending d) _ k = Some (call (stmts d) k)
body (stmt d) (Some (Reserved key.Update)) k =
    Some (take (Reserved key.Update) (λ x. call (path (d + 1)) (λ p. take (Reserved key.By) (λ y.
    call (stmt (d + 1)) (λ s. mark (λ e. k (st.Update p s (spanning x.span.from e))))))))
body (stmt d) (Some (Reserved key.If)) k =
    Some (take (Reserved key.If) (λ x. call (expr (d + 1)) (λ q. take (Reserved key.Then) (λ y. call
    (stmt (d + 1)) (λ s. take (Reserved key.Else) (λ z. call (stmt (d + 1)) (λ r. mark (λ e. k
    (st.If q s r (spanning x.span.from e))))))))))
body (stmt d) (Some (Reserved key.Let)) k =
    Some (take (Reserved key.Let) (λ x. call var (λ n. take (Sign sign.Equal) (λ y. call (expr (d +
    1)) (λ q. take (Reserved key.In) (λ z. call (stmt (d + 1)) (λ s. mark (λ e. k (st.Let n.0 q s
    (spanning x.span.from e))))))))))
body (stmt d) _ k = Some (call (simple (d + 1)) (λ s. call (guard (d + 1) s) k))
body (guard d s) (Some (Reserved key.Where)) k =
    Some (take (Reserved key.Where) (λ x. call (expr d) (λ q. mark (λ e. k (st.Guarded s q (spanning
    (stmt_span s).from e))))))
body (guard d s) _ k = Some (k s)
body (simple d) (Some (Reserved key.Skip)) k =
    Some (take (Reserved key.Skip) (λ x. k (st.Skip x.span)))
body (simple d) (Some (Reserved key.Insert)) k =
    Some (take (Reserved key.Insert) (λ x. call (inserting d x.span.from) k))
body (simple d) (Some (Reserved key.Delete)) k =
    Some (take (Reserved key.Delete) (λ x. call (deleting d x.span.from) k))
body (simple d) (Some (Reserved key.Replace)) k =
    Some (take (Reserved key.Replace) (λ x. call (replacing d x.span.from) k))
body (simple d) (Some (Reserved key.Rename)) k =
    Some (take (Reserved key.Rename) (λ x. call (path d) (λ p. take (Reserved key.To) (λ y. call
    label (λ n. k (st.Rename p n.0 (spanning x.span.from n.1.to)))))))
body (simple d) (Some (Reserved key.Call)) k =
    Some (take (Reserved key.Call) (λ x. call label (λ n. take (Sign sign.Open) (λ y. call (args d)
    (λ qs. take (Sign sign.Close) (λ z. k (st.Call n.0 qs (spanning x.span.from z.span.to))))))))
body (simple d) (Some (Sign sign.OpenBrace)) k =
    Some (take (Sign sign.OpenBrace) (λ x. call (stmts d) (λ ss. take (Sign sign.CloseBrace) (λ y. k
    (st.Block ss (spanning x.span.from y.span.to))))))
body (simple d) _ k = None
body (inserting d from) (Some (Reserved key.Value)) k =
    Some (take (Reserved key.Value) (λ x. call (expr d) (λ q. mark (λ e. k (st.Insert q (spanning
    from e))))))
body (inserting d from) (Some (Reserved key.Before)) k =
    Some (take (Reserved key.Before) (λ x. call (path d) (λ p. take (Reserved key.Value) (λ y. call
    (expr d) (λ q. mark (λ e. k (st.InsertBefore p q (spanning from e))))))))
body (inserting d from) (Some (Reserved key.After)) k =
    Some (take (Reserved key.After) (λ x. call (path d) (λ p. take (Reserved key.Value) (λ y. call
    (expr d) (λ q. mark (λ e. k (st.InsertAfter p q (spanning from e))))))))
body (inserting d from) (Some (Reserved key.As)) k =
    Some (take (Reserved key.As) (λ x. call (placing d from) k))
body (inserting d from) _ k = None
body (placing d from) (Some (Reserved key.First)) k =
    Some (take (Reserved key.First) (λ x. take (Reserved key.Into) (λ y. call (path d) (λ p. take
    (Reserved key.Value) (λ z. call (expr d) (λ q. mark (λ e. k (st.InsertFirst p q (spanning from
    e)))))))))
body (placing d from) (Some (Reserved key.Last)) k =
    Some (take (Reserved key.Last) (λ x. take (Reserved key.Into) (λ y. call (path d) (λ p. take
    (Reserved key.Value) (λ z. call (expr d) (λ q. mark (λ e. k (st.InsertLast p q (spanning from
    e)))))))))
body (placing d from) _ k = None
body (deleting d from) (Some (Reserved key.From)) k =
    Some (take (Reserved key.From) (λ x. call (path d) (λ p. mark (λ e. k (st.DeleteFrom p (spanning
    from e))))))
body (deleting d from) _ k =
    Some (call (path d) (λ p. mark (λ e. k (st.Delete p (spanning from e)))))
body (replacing d from) (Some (Reserved key.In)) k =
    Some (take (Reserved key.In) (λ x. call (path d) (λ p. take (Reserved key.With) (λ y. call (expr
    d) (λ q. mark (λ e. k (st.ReplaceIn p q (spanning from e))))))))
body (replacing d from) _ k =
    Some (call (path d) (λ p. take (Reserved key.With) (λ y. call (expr d) (λ q. mark (λ e. k
    (st.Replace p q (spanning from e)))))))
body (args d) (Some (Sign sign.Close)) k = Some (k [])
body (args d) (Some (Sign sign.CloseSquare)) k = Some (k [])
body (args d) _ k = Some (call (item d) (λ q. call (items d) (λ qs. k (q ∷ qs))))
body typedefs (Some (Reserved key.Type)) k =
    Some (call typedef (λ td. call typedefs (λ tds. k (td ∷ tds))))
body typedefs _ k = Some (k [])
body typedef (Some (Reserved key.Type)) k =
    Some (take (Reserved key.Type) (λ x. call tname (λ n. take (Sign sign.Equal) (λ y. call (type 0)
    (λ t. take (Sign sign.Semicolon) (λ z. k (record { name = n.0; at = n.1; body = t })))))))
body typedef _ k = None
body procdefs (Some (Reserved key.Procedure)) k =
    Some (call procdef (λ pd. call procdefs (λ pds. k (pd ∷ pds))))
body procdefs _ k = Some (k [])
body procdef (Some (Reserved key.Procedure)) k =
    Some (take (Reserved key.Procedure) (λ x. call label (λ n. take (Sign sign.Open) (λ y. call
    params (λ pms. take (Sign sign.Close) (λ z. take (Sign sign.Colon) (λ x'. call (type 0) (λ t.
    take (Sign sign.Arrow) (λ y'. call (type 0) (λ u. take (Sign sign.OpenBrace) (λ z'. call
    (stmts 0) (λ ss. take (Sign sign.CloseBrace) (λ z''. k (record {
      name = n.0;
      at = n.1;
      params
          = pms;
      focus = t;
      result = u;
      body = ss;
    }))))))))))))))
body procdef _ k = None
body params (Some (Sign sign.Close)) k = Some (k [])
body params (Some (Sign sign.CloseSquare)) k = Some (k [])
body params _ k = Some (call param (λ pm. call params_on (λ pms. k (pm ∷ pms))))
body params_on (Some (Sign sign.Comma)) k =
    Some (take (Sign sign.Comma) (λ x. call param (λ pm. call params_on (λ pms. k (pm ∷ pms)))))
body params_on _ k = Some (k [])
body param h k =
    Some (call var (λ n. take (Sign sign.Colon) (λ x. call (tpost 0) (λ t. k (record {
      var = n.0;
      at
          = n.1;
      ty = t;
    })))))
body output (Some (Reserved key.Output)) k =
    Some (take (Reserved key.Output) (λ x. call (type 0) (λ t. k (Some t))))
body output _ k = Some (k None)
body script h k =
    Some (call typedefs (λ tds. call procdefs (λ pds. take (Reserved key.Input) (λ x. call (type 0)
    (λ t. call output (λ o. take (Reserved key.Do) (λ y. call (stmts 0) (λ ss. k (record {
      types =
          tds;
      procs = pds;
      input = t;
      output = o;
      body = ss;
    })))))))))

abbrev pub FreeFor : Option ℕ → Part → State → Type 0
FreeFor w (type d) s = Free w d s
FreeFor w (item d) s = Free w d s
FreeFor w (stmt d) s = Free w d s
FreeFor w _ s = Unit {0}

pub data Outcome : Type 0 where
  accepts : (p : Part) → Value p → Outcome
  faults : State → Outcome

abbrev pub Lacks : Lexeme → State → Type 0
Lacks l s = head s ≡ Some l → ⊥

pub data Runs (w : Option ℕ) : Prog → State → Outcome → Type 0 where
  runs-done : {p : Part} {v : Value p} {s : State} →
      head s ≡ None → Runs w (done p v) s (accepts p v)
  runs-over : {p : Part} {v : Value p} {s : State} →
      (head s ≡ None → ⊥) → Runs w (done p v) s (faults s)
  runs-take : {l : Lexeme} {f : Piece → Prog} {s s' : State} {x : Piece} {o : Outcome} →
      Takes l s x s' → Runs w (f x) s' o → Runs w (take l f) s o
  runs-unfit : {l : Lexeme} {f : Piece → Prog} {s : State} →
      Lacks l s → Runs w (take l f) s (faults s)
  runs-mark : {f : ℕ → Prog} {s : State} {o : Outcome} →
      Runs w (f (end s)) s o → Runs w (mark f) s o
  runs-call : {p : Part} {k : Value p → Prog} {q : Prog} {s : State} {o : Outcome} →
      FreeFor w p s → body p (head s) k ≡ Some q → Runs w q s o → Runs w (call p k) s o
  runs-none : {p : Part} {k : Value p → Prog} {s : State} →
      body p (head s) k ≡ None → Runs w (call p k) s (faults s)
  runs-deep : {p : Part} {k : Value p → Prog} {s : State} →
      (FreeFor w p s → ⊥) → Runs w (call p k) s (faults s)
