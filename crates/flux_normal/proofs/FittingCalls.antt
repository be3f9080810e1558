-- The calls in what a statement stands for fit where those in the statement do.
use Rattle.std.proofs.Common.{◌≡◌, ◌+◌, ◌==◌, ℕ, suc, Bool, true, false, not, cond, List, [], ◌∷◌, ◌++◌, length, map, Option, Some, None, Result, Ok, Err, IfOk, refl, sym, ap, subst, ◌∙◌, find, flat_map, arith}
use Rattle.std.specs.List.{All, AllByRecursion}
use Rattle.std.specs.Option.{IsSomeAnd}
use Rattle.std.proofs.lemmas.List.{length-map}
use Rattle.std.proofs.lemmas.Option.{none-some, same_Some}
use Rattle.std.proofs.lemmas.List.Elements.{All-from_recursion, recursion_from_All}
use Rattle.flux_calculus.specs.declared.ask.Span.{Span}
use Rattle.flux_calculus.specs.Core as calculus
use Rattle.flux_calculus.specs.Core.{Proc, Procs, proc_of, in_order}
use Rattle.flux_core.specs.declared.statement.Core.{Core}
use Rattle.flux_core.specs.Statements.{core_of}
use Rattle.flux_grammar.specs.declared.tree.Expr.{Expr}
use Rattle.flux_grammar.specs.declared.tree.Step.{Step}
use Rattle.flux_grammar.specs.declared.tree.Stmt.{Stmt, map-Stmt, roll-Stmt}
use Rattle.flux_grammar.specs.declared.tree.Stmt.TheOpen.{Stmt-F}
use Rattle.flux_grammar.specs.declared.tree.Stmt.TheFolds.{fold-roll-Stmt, ind-Stmt}
use Rattle.flux_grammar.specs.declared.tree.TestText.{TestText}
use Rattle.flux_grammar.specs.NormalFaults.{Call, calls, calls_step, joined}
use Rattle.flux_grammar.specs.NormalQueries.{Numbered, of_all, query_form}
use Rattle.flux_grammar.specs.NormalStatements.{Placed, placed, filtered, remembered, tested, on_step, on_steps, together, index_of, stmt_step, stmt_form, stmts_form}
use Rattle.flux_grammar.specs.Spans.{stmt_span_step}
use Rattle.flux_normal.specs.Heads.{Head, has_name, names_in, Fits, head_of, AllFit}

-- ---- lists of which each item has a property

halves : {X : Type 0} (P : X → Type 0) (xs ys : List X) → AllByRecursion P (xs ++ ys) → AllByRecursion P xs × AllByRecursion P ys
halves P [] ys h = (tt, h)
halves P (x ∷ xs) ys h = ((h.0, (halves P xs ys h.1).0), (halves P xs ys h.1).1)

pub All-left : {X : Type 0} (P : X → Type 0) (xs ys : List X) → All P (xs ++ ys) → All P xs
All-left P xs ys h = All-from_recursion P xs (halves P xs ys (recursion_from_All P (xs ++ ys) h)).0

pub All-right : {X : Type 0} (P : X → Type 0) (xs ys : List X) → All P (xs ++ ys) → All P ys
All-right P xs ys h = All-from_recursion P ys (halves P xs ys (recursion_from_All P (xs ++ ys) h)).1

-- ---- the place of a procedure

place_at : (b : Bool) (q : Proc) (qs : Procs) (n a : ℕ) → cond b (Some (head_of q)) (find (has_name n) (map head_of qs)) ≡ Some (n, a)
    → (find (has_name n) (map head_of qs) ≡ Some (n, a) → IsSomeAnd (proc_of qs (index_of (names_in (map head_of qs)) n)) (λ p. a ≡ length p.params))
    → IsSomeAnd (proc_of (q ∷ qs) (cond (not b) (1 + index_of (names_in (map head_of qs)) n) 0)) (λ p. a ≡ length p.params)
place_at true q qs n a e rest = sym (ap (λ h. h.1) (same_Some (head_of q) (n, a) e))
place_at false q qs n a e rest =
    let i = index_of (names_in (map head_of qs)) n in
    let next : suc i ≡ 1 + i = omega arith in
    subst (λ k. IsSomeAnd (proc_of (q ∷ qs) k) (λ p. a ≡ length p.params)) next (rest e)

place_fits : (procs : Procs) (n a : ℕ) → find (has_name n) (map head_of procs) ≡ Some (n, a) → IsSomeAnd (proc_of procs (index_of (names_in (map head_of procs)) n)) (λ p. a ≡ length p.params)
place_fits [] n a e = absurd (none-some (n, a) e)
place_fits (q ∷ qs) n a e = place_at (q.name == n) q qs n a e (place_fits qs n a)

of_all_length : {A : Type 0} (xs : List (Numbered A)) (k : ℕ) → length (of_all xs k).0 ≡ length xs
of_all_length [] k = refl
of_all_length (x ∷ xs) k = ap (λ n. suc n) (of_all_length xs (x k).1)

module _ (heads : List Head) where
  abbrev names : List ℕ
  names = names_in heads

  -- wherever a part stands, the calls in what it stands for fit
  abbrev Good : Numbered calculus.Core → Type 0
  Good s = (k : ℕ) → AllFit heads (s k).0

  call_fits : (at : Span) (n : ℕ) (es : List Expr) (k : ℕ) → find (has_name n) heads ≡ Some (n, length es) → AllFit heads (calculus.call at (index_of names n) (of_all (map query_form es) k).0)
  call_fits at n es k fits procs same =
      let a = length (of_all (map query_form es) k).0 in
      let many : length es ≡ a = sym (of_all_length (map query_form es) k ∙ length-map es query_form) in
      subst (λ hs. find (has_name n) hs ≡ Some (n, a) → IsSomeAnd (proc_of procs (index_of (names_in hs) n)) (λ p. a ≡ length p.params)) same (place_fits procs n a) (fits ∙ ap (λ m. Some (n, m)) many)

  filtered_fits : (at : Span) (f : Option Expr) (s : Numbered calculus.Core) → Good s → Good (filtered at f s)
  filtered_fits at None s h k = h k
  filtered_fits at (Some e) s h k = λ procs same. (h _ procs same, tt)

  remembered_fits : (at : Span) (v : Option ℕ) (s : Numbered calculus.Core) → Good s → Good (remembered at v s)
  remembered_fits at None s h k = h k
  remembered_fits at (Some x) s h k = λ procs same. h k procs same

  tested_fits : (at : Span) (t : Option TestText) (s : Numbered calculus.Core) → Good s → Good (tested at t s)
  tested_fits at None s h k = h k
  tested_fits at (Some t) s h k = λ procs same. h k procs same

  step_fits : (p : Step) (s : Numbered calculus.Core) → Good s → Good (on_step p s)
  step_fits p s h = tested_fits p.span p.test _ (remembered_fits p.span p.var _ (filtered_fits p.span p.filter s h))

  path_fits : (ps : List Step) (s : Numbered calculus.Core) → Good s → Good (on_steps ps s)
  path_fits [] s h = h
  path_fits (p ∷ []) s h = step_fits p s h
  path_fits (p ∷ q ∷ ps) s h = step_fits p _ (λ k procs same. path_fits (q ∷ ps) s h k procs same)

  in_order_fits : (at : Span) (ps : List Placed) → AllByRecursion (λ p. Good p.1) ps → (k : ℕ) → AllFit heads (in_order at (of_all (map (λ p. p.1) ps) k).0)
  in_order_fits at [] h k procs same = tt
  in_order_fits at (p ∷ ps) h k procs same = (h.0 k procs same, in_order_fits at ps h.1 (p.1 k).1 procs same)

  together_fits : (ps : List Placed) → AllByRecursion (λ p. Good p.1) ps → Good (together ps)
  together_fits [] h k = λ procs same. tt
  together_fits (p ∷ []) h k = h.0 k
  together_fits (p ∷ q ∷ ps) h k = in_order_fits _ (p ∷ q ∷ ps) h k

  -- a statement whose calls fit stands for one whose calls fit
  abbrev Keeps : Stmt → Type 0
  Keeps s = All (Fits heads) (calls s) → Good (stmt_form names s)

  several_fit : (ss : List ((s : Stmt) × Keeps s)) → All (Fits heads) (joined (map calls (map (λ e. e.0) ss))) → AllByRecursion (λ p. Good p.1) (map (placed names) (map (λ e. e.0) ss))
  several_fit [] h = tt
  several_fit (s ∷ ss) h =
      let rest = joined (map calls (map (λ e. e.0) ss)) in
      (s.1 (All-left (Fits heads) (calls s.0) rest h), several_fit ss (All-right (Fits heads) (calls s.0) rest h))

  abbrev under : Stmt-F ((s : Stmt) × Keeps s) → Stmt-F Stmt
  under y = map-Stmt ((s : Stmt) × Keeps s) Stmt (λ e. e.0) y

  form_fits : (y : Stmt-F ((s : Stmt) × Keeps s)) → All (Fits heads) (calls_step (map-Stmt Stmt (List Call) calls (under y))) → Good (stmt_step names (map-Stmt Stmt Placed (placed names) (under y)))
  form_fits (Stmt-F.Update p s at) h = path_fits p.steps _ (s.1 h)
  form_fits (Stmt-F.If e s t at) h = λ k procs same. (s.1 (All-left (Fits heads) (calls s.0) (calls t.0) h) _ procs same, t.1 (All-right (Fits heads) (calls s.0) (calls t.0) h) _ procs same)
  form_fits (Stmt-F.Let x e s at) h = λ k procs same. s.1 h _ procs same
  form_fits (Stmt-F.Guarded s e at) h = λ k procs same. (s.1 h k procs same, tt)
  form_fits (Stmt-F.Skip at) h = λ k procs same. tt
  form_fits (Stmt-F.Insert e at) h = λ k procs same. tt
  form_fits (Stmt-F.InsertBefore p e at) h = path_fits p.steps _ (λ k procs same. tt)
  form_fits (Stmt-F.InsertAfter p e at) h = path_fits p.steps _ (λ k procs same. tt)
  form_fits (Stmt-F.InsertFirst p e at) h = path_fits p.steps _ (λ k procs same. tt)
  form_fits (Stmt-F.InsertLast p e at) h = path_fits p.steps _ (λ k procs same. tt)
  form_fits (Stmt-F.Delete p at) h = path_fits p.steps _ (λ k procs same. tt)
  form_fits (Stmt-F.DeleteFrom p at) h = path_fits p.steps _ (λ k procs same. tt)
  form_fits (Stmt-F.Rename p n at) h = path_fits p.steps _ (λ k procs same. tt)
  form_fits (Stmt-F.Replace p e at) h = path_fits p.steps _ (λ k procs same. (tt, (tt, tt)))
  form_fits (Stmt-F.ReplaceIn p e at) h = path_fits p.steps _ (λ k procs same. (tt, (tt, tt)))
  form_fits (Stmt-F.Call n es at) h = λ k procs same. call_fits at n es k (recursion_from_All (Fits heads) (record { name = n; arguments = length es; place = at.from } ∷ []) h).0 procs same
  form_fits (Stmt-F.Block ss at) h = together_fits _ (several_fit ss h)

  abbrev step : Stmt-F Placed → Placed
  step s = (stmt_span_step s, stmt_step names s)

  kept : (y : Stmt-F ((s : Stmt) × Keeps s)) → Keeps (roll-Stmt (under y))
  kept y h k =
      let inside = subst (All (Fits heads)) (fold-roll-Stmt (List Call) calls_step (under y)) h in
      subst (λ p. AllFit heads (p.1 k).0) (sym (fold-roll-Stmt Placed step (under y))) (form_fits y inside k)

  keeps : (s : Stmt) → Keeps s
  keeps = ind-Stmt Keeps (λ x y is. subst (λ z. Keeps (roll-Stmt z)) is (kept y))

  bodies_fit : (ss : List Stmt) → AllByRecursion (Fits heads) (flat_map calls ss) → AllByRecursion (λ p. Good p.1) (map (placed names) ss)
  bodies_fit [] h = tt
  bodies_fit (s ∷ ss) h =
      let parts = halves (Fits heads) (calls s) (flat_map calls ss) h in
      (keeps s (All-from_recursion (Fits heads) (calls s) parts.0), bodies_fit ss parts.1)

  pub body_fits : {E : Type 0} (ss : List Stmt) (k n : ℕ) (r : Result Core E) → All (Fits heads) (flat_map calls ss) → IfOk r (λ core. stmts_form names ss k ≡ (core_of core, n)) → IfOk r (λ core. AllFit heads (core_of core))
  body_fits ss k n (Ok core) fits form = subst (λ p. AllFit heads p.0) form (together_fits (map (placed names) ss) (bodies_fit ss (recursion_from_All (Fits heads) (flat_map calls ss) fits)) k)
  body_fits ss k n (Err e) fits form = tt
