-- What holds of each name of written statements holds of each name of the core statements that they
-- stand for.
use Rattle.std.proofs.Common.{ℕ, List, [], ◌∷◌, ◌++◌, Option, Some, None, map, flat_map, All, sym, subst}
use Rattle.std.proofs.lemmas.List.Elements.{All-head, All-tail}
use Rattle.flux_calculus.specs.declared.ask.Span.{Span}
use Rattle.flux_calculus.specs.Core.{Core, in_order, children}
use Rattle.flux_grammar.specs.declared.tree.Expr.{Expr}
use Rattle.flux_grammar.specs.declared.tree.Path.{Path}
use Rattle.flux_grammar.specs.declared.tree.Step.{Step}
use Rattle.flux_grammar.specs.declared.tree.Stmt.{Stmt, roll-Stmt}
use Rattle.flux_grammar.specs.declared.tree.Stmt.TheOpen.{Stmt-F}
use Rattle.flux_grammar.specs.declared.tree.Stmt.TheFolds.{fold-roll-Stmt, map-Stmt, ind-Stmt}
use Rattle.flux_grammar.specs.declared.tree.TestText.{TestText}
use Rattle.flux_grammar.specs.Names.{of_several, names_in_expr, of_variable, of_spot, of_content, names_in_step, names_in_path, names_in_stmt_step, names_in_stmt, StepNames, PathNames, StmtNames}
use Rattle.flux_grammar.specs.NormalNames.{CoreNames}
use Rattle.flux_grammar.specs.NormalQueries.{Numbered, of_one, of_all, query_form}
use Rattle.flux_grammar.specs.NormalStatements.{filtered, remembered, tested, on_step, on_steps, on_path, Placed, together, stmt_step, placed, stmts_form}
use Rattle.flux_grammar.specs.Spans.{stmt_span_step}
use Rattle.flux_grammar.proofs.NameLists.{all_first, all_second}
use Rattle.flux_grammar.proofs.NamesOfQueries.{test_keeps, query_keeps, queries_keep}

module _ (P : ℕ → Type 0) where
  -- P holds of each name of the statement, whatever number its variables begin with
  abbrev pub StatementNames : Numbered Core → Type 0
  StatementNames s = (k : ℕ) → CoreNames P (s k).0

  of_filtered : (at : Span) (o : Option Expr) (s : Numbered Core) → All P (of_content o) → StatementNames s → StatementNames (filtered at o s)
  of_filtered at None s all holds = holds
  of_filtered at (Some e) s all holds = λ k. (query_keeps P e all k, holds (query_form e k).1, tt)

  of_remembered : (at : Span) (o : Option ℕ) (s : Numbered Core) → All P (of_variable o) → StatementNames s → StatementNames (remembered at o s)
  of_remembered at None s all holds = holds
  of_remembered at (Some x) s all holds = λ k. (All-head P x [] all, holds k)

  of_tested : (at : Span) (o : Option TestText) (s : Numbered Core) → All P (of_spot o) → StatementNames s → StatementNames (tested at o s)
  of_tested at None s all holds = holds
  of_tested at (Some t) s all holds = λ k. (test_keeps P t all, holds k)

  of_step : (p : Step) (s : Numbered Core) → StepNames P p → StatementNames s → StatementNames (on_step p s)
  of_step p s all holds =
      let others = all_second P (of_variable p.var) (of_spot p.test ++ of_content p.filter) all in
      let inner = of_filtered p.span p.filter s (all_second P (of_spot p.test) (of_content p.filter) others) holds in
      let bound = of_remembered p.span p.var (filtered p.span p.filter s) (all_first P (of_variable p.var) (of_spot p.test ++ of_content p.filter) all) inner in
      of_tested p.span p.test (remembered p.span p.var (filtered p.span p.filter s)) (all_first P (of_spot p.test) (of_content p.filter) others) bound

  of_steps : (ps : List Step) (s : Numbered Core) → All P (flat_map names_in_step ps) → StatementNames s → StatementNames (on_steps ps s)
  of_steps [] s all holds = holds
  of_steps (p ∷ []) s all holds = of_step p s (all_first P (names_in_step p) [] all) holds
  of_steps (p ∷ q ∷ ps) s all holds =
      let inner = of_steps (q ∷ ps) s (all_second P (names_in_step p) (flat_map names_in_step (q ∷ ps)) all) holds in
      of_step p (of_one (children p.span) (on_steps (q ∷ ps) s)) (all_first P (names_in_step p) (flat_map names_in_step (q ∷ ps)) all) (λ k. inner k)

  of_path : (p : Path) (s : Numbered Core) → PathNames P p → StatementNames s → StatementNames (on_path p s)
  of_path p s all holds = of_steps p.steps s all holds

  abbrev Keeps : List ℕ → Stmt → Type 0
  Keeps procs s = StmtNames P s → StatementNames (placed procs s).1

  -- statements one behind the other
  abbrev AllPlaced : List Placed → Type 0
  AllPlaced [] = Unit {0}
  AllPlaced (s ∷ ss) = StatementNames s.1 × AllPlaced ss

  of_order : (at : Span) (ss : List Placed) → AllPlaced ss → (k : ℕ) → CoreNames P (in_order at (of_all (map (λ p. p.1) ss) k).0)
  of_order at [] all k = tt
  of_order at (s ∷ ss) all k = (all.0 k, of_order at ss all.1 (s.1 k).1)

  of_together : (ss : List Placed) → AllPlaced ss → StatementNames (together ss)
  of_together [] all = λ k. tt
  of_together (s ∷ []) all = all.0
  of_together (s ∷ t ∷ ss) all = λ k. of_order _ (s ∷ t ∷ ss) all k

  module _ (procs : List ℕ) where
    abbrev Kept : Type 0
    Kept = (s : Stmt) × Keeps procs s

    of_block : (ss : List Kept) → All P (of_several (map names_in_stmt (map (λ e. e.0) ss))) → AllPlaced (map (placed procs) (map (λ e. e.0) ss))
    of_block [] all = tt
    of_block (s ∷ ss) all =
        let others = of_several (map names_in_stmt (map (λ (e : Kept). e.0) ss)) in
        (s.1 (all_first P (names_in_stmt s.0) others all), of_block ss (all_second P (names_in_stmt s.0) others all))

    -- a statement on a path, which has a query
    on : (p : Path) (e : Expr) (s : Numbered Core) → All P (names_in_path p ++ names_in_expr e) → (All P (names_in_expr e) → StatementNames s) → StatementNames (on_path p s)
    on p e s all holds =
        of_path p s (all_first P (names_in_path p) (names_in_expr e) all) (holds (all_second P (names_in_path p) (names_in_expr e) all))

    -- of a layer with what is known of its parts
    by_layer : (y : Stmt-F Kept) → All P (names_in_stmt_step (map-Stmt Stmt (List ℕ) names_in_stmt (map-Stmt Kept Stmt (λ e. e.0) y))) → StatementNames (stmt_step procs (map-Stmt Stmt Placed (placed procs) (map-Stmt Kept Stmt (λ e. e.0) y)))
    by_layer (Stmt-F.Update p s at) all =
        of_path p (placed procs s.0).1 (all_first P (names_in_path p) (names_in_stmt s.0) all) (s.1 (all_second P (names_in_path p) (names_in_stmt s.0) all))
    by_layer (Stmt-F.If e s t at) all =
        let others = all_second P (names_in_expr e) (names_in_stmt s.0 ++ names_in_stmt t.0) all in
        λ k. (
          query_keeps P e (all_first P (names_in_expr e) (names_in_stmt s.0 ++ names_in_stmt t.0) all) k,
          s.1 (all_first P (names_in_stmt s.0) (names_in_stmt t.0) others) (query_form e k).1,
          t.1 (all_second P (names_in_stmt s.0) (names_in_stmt t.0) others) ((placed procs s.0).1 (query_form e k).1).1,
        )
    by_layer (Stmt-F.Let x e s at) all =
        let others = All-tail P x (names_in_expr e ++ names_in_stmt s.0) all in
        λ k. (
          All-head P x (names_in_expr e ++ names_in_stmt s.0) all,
          query_keeps P e (all_first P (names_in_expr e) (names_in_stmt s.0) others) k,
          s.1 (all_second P (names_in_expr e) (names_in_stmt s.0) others) (query_form e k).1,
        )
    by_layer (Stmt-F.Guarded s e at) all =
        λ k. (
          query_keeps P e (all_second P (names_in_stmt s.0) (names_in_expr e) all) ((placed procs s.0).1 k).1,
          s.1 (all_first P (names_in_stmt s.0) (names_in_expr e) all) k,
          tt,
        )
    by_layer (Stmt-F.Skip at) all = λ k. tt
    by_layer (Stmt-F.Insert e at) all = λ k. query_keeps P e all k
    by_layer (Stmt-F.InsertBefore p e at) all = on p e _ all (λ named k. query_keeps P e named k)
    by_layer (Stmt-F.InsertAfter p e at) all = on p e _ all (λ named k. query_keeps P e named k)
    by_layer (Stmt-F.InsertFirst p e at) all = on p e _ all (λ named k. query_keeps P e named k)
    by_layer (Stmt-F.InsertLast p e at) all = on p e _ all (λ named k. query_keeps P e named k)
    by_layer (Stmt-F.Delete p at) all = of_path p _ all (λ k. tt)
    by_layer (Stmt-F.DeleteFrom p at) all = of_path p _ all (λ k. tt)
    by_layer (Stmt-F.Rename p n at) all =
        let named = All-head P n [] (all_second P (names_in_path p) (n ∷ []) all) in
        of_path p _ (all_first P (names_in_path p) (n ∷ []) all) (λ k. named)
    by_layer (Stmt-F.Replace p e at) all = on p e _ all (λ named k. (tt, (query_keeps P e named k, tt)))
    by_layer (Stmt-F.ReplaceIn p e at) all = on p e _ all (λ named k. (tt, (query_keeps P e named k, tt)))
    by_layer (Stmt-F.Call n es at) all = λ k. queries_keep P es (All-tail P n (flat_map names_in_expr es) all) k
    by_layer (Stmt-F.Block ss at) all =
        of_together (map (placed procs) (map (λ e. e.0) ss)) (of_block ss all)

    layer_keeps : (y : Stmt-F Kept) → Keeps procs (roll-Stmt (map-Stmt Kept Stmt (λ e. e.0) y))
    layer_keeps y all =
        let x = map-Stmt Kept Stmt (λ e. e.0) y in
        subst (λ p. StatementNames p.1) (sym (fold-roll-Stmt Placed (λ s. (stmt_span_step s, stmt_step procs s)) x)) (by_layer y (subst (All P) (fold-roll-Stmt (List ℕ) names_in_stmt_step x) all))

    stmt_keeps : (s : Stmt) → Keeps procs s
    stmt_keeps = ind-Stmt (Keeps procs) (λ x y is. subst (λ z. Keeps procs (roll-Stmt z)) is (layer_keeps y))

    all_placed : (ss : List Stmt) → All P (flat_map names_in_stmt ss) → AllPlaced (map (placed procs) ss)
    all_placed [] all = tt
    all_placed (s ∷ ss) all =
        (stmt_keeps s (all_first P (names_in_stmt s) (flat_map names_in_stmt ss) all), all_placed ss (all_second P (names_in_stmt s) (flat_map names_in_stmt ss) all))

    pub stmts_keep : (ss : List Stmt) → All P (flat_map names_in_stmt ss) → StatementNames (stmts_form procs ss)
    stmts_keep ss all = of_together (map (placed procs) ss) (all_placed ss all)
