-- What the forms of statements stand for, a constructor at a time.
use Rattle.std.proofs.Common.{◌≡◌, ℕ, List, [], ◌∷◌, map, sym, ap, ◌∙◌}
use Rattle.flux_calculus.specs.declared.ask.Span.{Span}
use Rattle.flux_calculus.specs.declared.ask.Var.TheVariants.{Named}
use Rattle.flux_calculus.specs.Core.{Core, skip, in_order, choice, binding, insert, delete, rename, children, left, right, call}
use Rattle.flux_grammar.specs.declared.tree.Expr.{Expr}
use Rattle.flux_grammar.specs.declared.tree.Path.{Path}
use Rattle.flux_grammar.specs.declared.tree.Stmt.{Stmt}
use Rattle.flux_grammar.specs.declared.tree.Stmt.TheOpen.{Stmt-F}
use Rattle.flux_grammar.specs.declared.tree.Stmt.TheFolds.{fold-roll-Stmt}
use Rattle.flux_grammar.specs.declared.tree.Stmt.TheVariants as is
use Rattle.flux_grammar.specs.NormalQueries.{Numbered, plain, of_one, of_two, of_three, of_all, query_form}
use Rattle.flux_grammar.specs.NormalStatements.{Placed, on_path, together, index_of, stmt_step, placed, stmt_form}
use Rattle.flux_grammar.specs.Spans.{stmt_span_step}

module _ (procs : List ℕ) where
  pub of_update : (p : Path) (s : Stmt) (at : Span) → stmt_form procs (is.Update p s at) ≡ on_path p (stmt_form procs s)
  of_update p s at = ap (λ p. p.1) (ap (placed procs) (sym (is.rolls-Update p s at)) ∙ fold-roll-Stmt Placed (λ s. (stmt_span_step s, stmt_step procs s)) (Stmt-F.Update p s at))

  pub of_if : (e : Expr) (s t : Stmt) (at : Span) → stmt_form procs (is.If e s t at) ≡ of_three (choice at) (query_form e) (stmt_form procs s) (stmt_form procs t)
  of_if e s t at = ap (λ p. p.1) (ap (placed procs) (sym (is.rolls-If e s t at)) ∙ fold-roll-Stmt Placed (λ s. (stmt_span_step s, stmt_step procs s)) (Stmt-F.If e s t at))

  pub of_let : (x : ℕ) (e : Expr) (s : Stmt) (at : Span) → stmt_form procs (is.Let x e s at) ≡ of_two (binding at (Named x)) (query_form e) (stmt_form procs s)
  of_let x e s at = ap (λ p. p.1) (ap (placed procs) (sym (is.rolls-Let x e s at)) ∙ fold-roll-Stmt Placed (λ s. (stmt_span_step s, stmt_step procs s)) (Stmt-F.Let x e s at))

  pub of_guarded : (s : Stmt) (e : Expr) (at : Span) → stmt_form procs (is.Guarded s e at) ≡ of_two (λ t c. choice at c t (skip at)) (stmt_form procs s) (query_form e)
  of_guarded s e at = ap (λ p. p.1) (ap (placed procs) (sym (is.rolls-Guarded s e at)) ∙ fold-roll-Stmt Placed (λ s. (stmt_span_step s, stmt_step procs s)) (Stmt-F.Guarded s e at))

  pub of_before : (p : Path) (e : Expr) (at : Span) → stmt_form procs (is.InsertBefore p e at) ≡ on_path p (of_one (λ q. left at (insert at q)) (query_form e))
  of_before p e at = ap (λ p. p.1) (ap (placed procs) (sym (is.rolls-InsertBefore p e at)) ∙ fold-roll-Stmt Placed (λ s. (stmt_span_step s, stmt_step procs s)) (Stmt-F.InsertBefore p e at))

  pub of_behind : (p : Path) (e : Expr) (at : Span) → stmt_form procs (is.InsertAfter p e at) ≡ on_path p (of_one (λ q. right at (insert at q)) (query_form e))
  of_behind p e at = ap (λ p. p.1) (ap (placed procs) (sym (is.rolls-InsertAfter p e at)) ∙ fold-roll-Stmt Placed (λ s. (stmt_span_step s, stmt_step procs s)) (Stmt-F.InsertAfter p e at))

  pub of_first : (p : Path) (e : Expr) (at : Span) → stmt_form procs (is.InsertFirst p e at) ≡ on_path p (of_one (λ q. children at (left at (insert at q))) (query_form e))
  of_first p e at = ap (λ p. p.1) (ap (placed procs) (sym (is.rolls-InsertFirst p e at)) ∙ fold-roll-Stmt Placed (λ s. (stmt_span_step s, stmt_step procs s)) (Stmt-F.InsertFirst p e at))

  pub of_last : (p : Path) (e : Expr) (at : Span) → stmt_form procs (is.InsertLast p e at) ≡ on_path p (of_one (λ q. children at (right at (insert at q))) (query_form e))
  of_last p e at = ap (λ p. p.1) (ap (placed procs) (sym (is.rolls-InsertLast p e at)) ∙ fold-roll-Stmt Placed (λ s. (stmt_span_step s, stmt_step procs s)) (Stmt-F.InsertLast p e at))

  pub of_delete : (p : Path) (at : Span) → stmt_form procs (is.Delete p at) ≡ on_path p (plain (delete at))
  of_delete p at = ap (λ p. p.1) (ap (placed procs) (sym (is.rolls-Delete p at)) ∙ fold-roll-Stmt Placed (λ s. (stmt_span_step s, stmt_step procs s)) (Stmt-F.Delete p at))

  pub of_delete_from : (p : Path) (at : Span) → stmt_form procs (is.DeleteFrom p at) ≡ on_path p (plain (children at (delete at)))
  of_delete_from p at = ap (λ p. p.1) (ap (placed procs) (sym (is.rolls-DeleteFrom p at)) ∙ fold-roll-Stmt Placed (λ s. (stmt_span_step s, stmt_step procs s)) (Stmt-F.DeleteFrom p at))

  pub of_rename : (p : Path) (n : ℕ) (at : Span) → stmt_form procs (is.Rename p n at) ≡ on_path p (plain (rename at n))
  of_rename p n at = ap (λ p. p.1) (ap (placed procs) (sym (is.rolls-Rename p n at)) ∙ fold-roll-Stmt Placed (λ s. (stmt_span_step s, stmt_step procs s)) (Stmt-F.Rename p n at))

  pub of_replace : (p : Path) (e : Expr) (at : Span) → stmt_form procs (is.Replace p e at) ≡ on_path p (of_one (λ q. in_order at (delete at ∷ insert at q ∷ [])) (query_form e))
  of_replace p e at = ap (λ p. p.1) (ap (placed procs) (sym (is.rolls-Replace p e at)) ∙ fold-roll-Stmt Placed (λ s. (stmt_span_step s, stmt_step procs s)) (Stmt-F.Replace p e at))

  pub of_replace_in : (p : Path) (e : Expr) (at : Span) → stmt_form procs (is.ReplaceIn p e at) ≡ on_path p (of_one (λ q. children at (in_order at (delete at ∷ insert at q ∷ []))) (query_form e))
  of_replace_in p e at = ap (λ p. p.1) (ap (placed procs) (sym (is.rolls-ReplaceIn p e at)) ∙ fold-roll-Stmt Placed (λ s. (stmt_span_step s, stmt_step procs s)) (Stmt-F.ReplaceIn p e at))

  pub of_call : (n : ℕ) (es : List Expr) (at : Span) → stmt_form procs (is.Call n es at) ≡ of_one (call at (index_of procs n)) (of_all (map query_form es))
  of_call n es at = ap (λ p. p.1) (ap (placed procs) (sym (is.rolls-Call n es at)) ∙ fold-roll-Stmt Placed (λ s. (stmt_span_step s, stmt_step procs s)) (Stmt-F.Call n es at))

  pub of_block : (ss : List Stmt) (at : Span) → stmt_form procs (is.Block ss at) ≡ together (map (placed procs) ss)
  of_block ss at = ap (λ p. p.1) (ap (placed procs) (sym (is.rolls-Block ss at)) ∙ fold-roll-Stmt Placed (λ s. (stmt_span_step s, stmt_step procs s)) (Stmt-F.Block ss at))
