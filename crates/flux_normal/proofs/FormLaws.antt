-- What a statement stands for, and which calls are in it, a form at a time.
use Rattle.std.proofs.Common.{◌≡◌, ◌+◌, ◌-◌, ◌<◌, ◌≤◌, ℕ, suc, not, cond, ◌==◌, zero, List, [], ◌∷◌, Some, length, get_or, map, flat_map, find, Result, Ok, Err, IfOk, refl, sym, ap, ap₂, subst, ◌∙◌, arith}
use Rattle.std.specs.List.{All, position_or_len}
use Rattle.std.proofs.lemmas.List.Elements.{All-head}
use Rattle.std.proofs.lemmas.List.Folds.{flat_map-map}
use Rattle.flux_calculus.specs.declared.ask.Span.{Span}
use Rattle.flux_calculus.specs.Core as calculus
use Rattle.flux_calculus.specs.Query.{Query}
use Rattle.flux_core.specs.declared.statement.Core.{Core, Core-F}
use Rattle.flux_core.specs.declared.statement.Core.TheVariants as core
use Rattle.flux_core.specs.declared.statement.Core.TheVariants.{rolls-Call}
use Rattle.flux_core.specs.declared.statement.Core.TheFolds.{fold-roll-Core}
use Rattle.flux_core.specs.Statements.{core_of, core_step}
use Rattle.flux_grammar.specs.declared.tree.Expr.{Expr}
use Rattle.flux_grammar.specs.declared.tree.Path.{Path}
use Rattle.flux_grammar.specs.declared.tree.Stmt.{Stmt, map-Stmt, roll-Stmt}
use Rattle.flux_grammar.specs.declared.tree.Stmt.TheVariants as stmt
use Rattle.flux_grammar.specs.declared.tree.Stmt.TheVariants.{rolls-Update, rolls-If, rolls-Let, rolls-Guarded, rolls-Block}
use Rattle.flux_grammar.specs.declared.tree.Stmt.TheOpen.{Stmt-F}
use Rattle.flux_grammar.specs.declared.tree.Stmt.TheFolds.{fold-roll-Stmt}
use Rattle.flux_grammar.specs.NormalFaults.{Call, calls, calls_step}
use Rattle.flux_grammar.specs.NormalQueries.{Numbered, of_one}
use Rattle.flux_grammar.specs.NormalStatements.{Placed, placed, index_of, stmt_step, stmt_form}
use Rattle.flux_grammar.specs.Spans.{stmt_span, stmt_span_step}
use Rattle.flux_grammar.specs.Grammar.{spanning}
use Rattle.flux_query.specs.declared.query.Query.{Query as Tree}
use Rattle.flux_query.specs.Read.{query_of}
use Rattle.flux_normal.specs.Heads.{Head, has_name, names_in, Fits}
use Rattle.flux_normal.specs.Together.{end_of, span_of_all}
use Rattle.flux_normal.proofs.FittingCalls.{All-left, All-right}

unrolled : (names : List ℕ) (x : Stmt-F Stmt) (s : Stmt) (k : ℕ) → roll-Stmt x ≡ s → stmt_form names s k ≡ stmt_step names (map-Stmt Stmt Placed (placed names) x) k
unrolled names x s k e =
    ap (λ t. stmt_form names t k) (sym e) ∙ ap (λ p. p.1 k) (fold-roll-Stmt Placed (λ t. (stmt_span_step t, stmt_step names t)) x)

pub form_made : {E : Type 0} (names : List ℕ) (x : Stmt-F Stmt) (s : Stmt) (k n : ℕ) (r : Result Core E) → roll-Stmt x ≡ s → IfOk r (λ made. stmt_step names (map-Stmt Stmt Placed (placed names) x) k ≡ (core_of made, n))
    → IfOk r (λ made. stmt_form names s k ≡ (core_of made, n))
form_made names x s k n (Ok made) e is = unrolled names x s k e ∙ is
form_made names x s k n (Err f) e is = tt

-- the calls in a part, where those in the whole fit
pub parts_fit : (heads : List Head) (x : Stmt-F Stmt) (s : Stmt) → roll-Stmt x ≡ s → All (Fits heads) (calls s) → All (Fits heads) (calls_step (map-Stmt Stmt (List Call) calls x))
parts_fit heads x s e h = subst (All (Fits heads)) (ap calls (sym e) ∙ fold-roll-Stmt (List Call) calls_step x) h

module _ (heads : List Head) (s : Stmt) where
  abbrev AllOf : Stmt → Type 0
  AllOf t = All (Fits heads) (calls t)

  pub update_fits : (p : Path) (inner got : Stmt) (at : Span) → s ≡ stmt.Update p inner at → got ≡ inner → AllOf s → AllOf got
  update_fits p inner got at is same h = subst AllOf (sym same) (parts_fit heads (Stmt-F.Update p inner at) s (rolls-Update p inner at ∙ sym is) h)

  pub yes_fits : (e : Expr) (t u got : Stmt) (at : Span) → s ≡ stmt.If e t u at → got ≡ t → AllOf s → AllOf got
  yes_fits e t u got at is same h = subst AllOf (sym same) (All-left (Fits heads) (calls t) (calls u) (parts_fit heads (Stmt-F.If e t u at) s (rolls-If e t u at ∙ sym is) h))

  pub no_fits : (e : Expr) (t u got : Stmt) (at : Span) → s ≡ stmt.If e t u at → got ≡ u → AllOf s → AllOf got
  no_fits e t u got at is same h = subst AllOf (sym same) (All-right (Fits heads) (calls t) (calls u) (parts_fit heads (Stmt-F.If e t u at) s (rolls-If e t u at ∙ sym is) h))

  pub let_fits : (x : ℕ) (e : Expr) (t got : Stmt) (at : Span) → s ≡ stmt.Let x e t at → got ≡ t → AllOf s → AllOf got
  let_fits x e t got at is same h = subst AllOf (sym same) (parts_fit heads (Stmt-F.Let x e t at) s (rolls-Let x e t at ∙ sym is) h)

  pub guarded_fits : (t got : Stmt) (e : Expr) (at : Span) → s ≡ stmt.Guarded t e at → got ≡ t → AllOf s → AllOf got
  guarded_fits t got e at is same h = subst AllOf (sym same) (parts_fit heads (Stmt-F.Guarded t e at) s (rolls-Guarded t e at ∙ sym is) h)

  pub block_fits : (ts got : List Stmt) (at : Span) → s ≡ stmt.Block ts at → got ≡ ts → AllOf s → All (Fits heads) (flat_map calls got)
  block_fits ts got at is same h =
      subst (All (Fits heads)) (flat_map-map (λ x. x) calls ts ∙ ap (flat_map calls) (sym same)) (parts_fit heads (Stmt-F.Block ts at) s (rolls-Block ts at ∙ sym is) h)

  pub call_fits : (n : ℕ) (es got : List Expr) (at : Span) → s ≡ stmt.Call n es at → got ≡ es → AllOf s → find (has_name n) heads ≡ Some (n, length got)
  call_fits n es got at is same h =
      All-head (Fits heads) (record { name = n; arguments = length es; place = at.from }) [] (parts_fit heads (Stmt-F.Call n es at) s (stmt.rolls-Call n es at ∙ sym is) h)
      ∙ ap (λ l. Some (n, length l)) (sym same)

-- a statement of several
at_index : (heads : List Head) (ss : List Stmt) (i : ℕ) (d : Stmt) → i < length ss → All (Fits heads) (flat_map calls ss) → All (Fits heads) (calls (get_or ss i d))
at_index heads [] i d lt h = absurd (omega arith)
at_index heads (s ∷ ss) zero d lt h = All-left (Fits heads) (calls s) (flat_map calls ss) h
at_index heads (s ∷ ss) (suc i) d lt h = at_index heads ss i d (omega arith) (All-right (Fits heads) (calls s) (flat_map calls ss) h)

pub one_fits : (heads : List Head) (ss : List Stmt) (i : ℕ) (s : Stmt) → i < length ss → s ≡ get_or ss i s → All (Fits heads) (flat_map calls ss) → All (Fits heads) (calls s)
one_fits heads ss i s lt is h = subst (λ t. All (Fits heads) (calls t)) (sym is) (at_index heads ss i s lt h)

-- ---- calls

index_named : (heads : List Head) (n : ℕ) → index_of (names_in heads) n ≡ position_or_len (has_name n) heads
index_named [] n = refl
index_named (h ∷ hs) n = ap (λ k. cond (not (h.0 == n)) (1 + k) 0) (index_named hs n)

call_is : (p : ℕ) (qs : List Tree) (at : Span) → core_of (core.Call p qs at) ≡ calculus.call at p (map query_of qs)
call_is p qs at = ap core_of (sym (rolls-Call p qs at)) ∙ fold-roll-Core calculus.Core core_step (Core-F.Call p qs at)

pub called : (heads : List Head) (n p : ℕ) (x : Numbered (List Query)) (qs : List Tree) (at : Span) (k m : ℕ) → p ≡ position_or_len (has_name n) heads → x k ≡ (map query_of qs, m)
    → of_one (calculus.call at (index_of (names_in heads) n)) x k ≡ (core_of (core.Call p qs at), m)
called heads n p x qs at k m place made =
    ap (λ z. (calculus.call at (index_of (names_in heads) n) z.0, z.1)) made
    ∙ ap (λ i. (calculus.call at i (map query_of qs), m)) (index_named heads n ∙ sym place)
    ∙ ap (λ c. (c, m)) (sym (call_is p qs at))

-- ---- the span of several statements

end_span : (s d : Stmt) (ss : List Stmt) → end_of (stmt_span s) (map stmt_span ss) ≡ (stmt_span (get_or (s ∷ ss) (length ss) d)).to
end_span s d [] = refl
end_span s d (t ∷ ss) = end_span t d ss

pub spans : (ss : List Stmt) (a z : Stmt) (from to : Span) → 2 ≤ length ss → a ≡ get_or ss 0 a → z ≡ get_or ss (length ss - 1) z → from ≡ stmt_span a → to ≡ stmt_span z
    → spanning from.from to.to ≡ span_of_all (map stmt_span ss)
spans [] a z from to lt is_a is_z f t = absurd (omega arith)
spans (s ∷ ss) a z from to lt is_a is_z f t =
    let e : length (s ∷ ss) - 1 ≡ length ss = omega arith in
    let last : z ≡ get_or (s ∷ ss) (length ss) z = is_z ∙ ap (λ n. get_or (s ∷ ss) n z) e in
    ap₂ (λ (x y : ℕ). spanning x y) (ap (λ at. at.from) (f ∙ ap stmt_span is_a)) (ap (λ at. at.to) (t ∙ ap stmt_span last) ∙ sym (end_span s z ss))
