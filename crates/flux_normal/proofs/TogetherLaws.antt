-- Statements one behind the other as one statement.
use Rattle.std.proofs.Common.{◌≡◌, ◌≤◌, ℕ, List, [], ◌∷◌, length, drop, get_or, map, refl, sym, ap, ap₂, ◌∙◌, append-nil}
use Rattle.std.proofs.lemmas.List.{drop_all}
use Rattle.flux_calculus.specs.declared.ask.Span.{Span}
use Rattle.flux_calculus.specs.Core.{Core, in_order}
use Rattle.flux_grammar.specs.declared.tree.Stmt.{Stmt, out-Stmt, map-Stmt}
use Rattle.flux_grammar.specs.declared.tree.Stmt.TheOpen.{Stmt-F}
use Rattle.flux_grammar.specs.declared.tree.Stmt.TheFolds.{fold_out-Stmt}
use Rattle.flux_grammar.specs.Grammar.{spanning}
use Rattle.flux_grammar.specs.NormalQueries.{of_all}
use Rattle.flux_grammar.specs.NormalStatements.{Placed, placed, stmt_step, stmt_form, stmts_form, together, last_end}
use Rattle.flux_grammar.specs.Spans.{stmt_span, stmt_span_step}
use Rattle.flux_normal.specs.Together.{end_of, span_of_all, together_of}
use Rattle.flux_normal.proofs.Counted.{behind}

span_step : (f : Stmt → Placed) (g : Stmt → Span) (x : Stmt-F Stmt) → stmt_span_step (map-Stmt Stmt Placed f x) ≡ stmt_span_step (map-Stmt Stmt Span g x)
span_step f g (Stmt-F.Update p s at) = refl
span_step f g (Stmt-F.If e s t at) = refl
span_step f g (Stmt-F.Let x e s at) = refl
span_step f g (Stmt-F.Guarded s e at) = refl
span_step f g (Stmt-F.Skip at) = refl
span_step f g (Stmt-F.Insert e at) = refl
span_step f g (Stmt-F.InsertBefore p e at) = refl
span_step f g (Stmt-F.InsertAfter p e at) = refl
span_step f g (Stmt-F.InsertFirst p e at) = refl
span_step f g (Stmt-F.InsertLast p e at) = refl
span_step f g (Stmt-F.Delete p at) = refl
span_step f g (Stmt-F.DeleteFrom p at) = refl
span_step f g (Stmt-F.Rename p n at) = refl
span_step f g (Stmt-F.Replace p e at) = refl
span_step f g (Stmt-F.ReplaceIn p e at) = refl
span_step f g (Stmt-F.Call n es at) = refl
span_step f g (Stmt-F.Block ss at) = refl

module _ (names : List ℕ) where
  abbrev step : Stmt-F Placed → Placed
  step s = (stmt_span_step s, stmt_step names s)

  pub span_placed : (s : Stmt) → (placed names s).0 ≡ stmt_span s
  span_placed s =
      ap (λ p. p.0) (fold_out-Stmt Placed step s)
      ∙ span_step (placed names) stmt_span (out-Stmt s)
      ∙ sym (fold_out-Stmt Span stmt_span_step s)

  end_placed : (s : Stmt) (ss : List Stmt) → last_end (placed names s) (map (placed names) ss) ≡ end_of (stmt_span s) (map stmt_span ss)
  end_placed s [] = ap (λ at. at.to) (span_placed s)
  end_placed s (t ∷ ss) = end_placed t ss

  pub forms : (ss : List Stmt) → map (λ p. p.1) (map (placed names) ss) ≡ map (stmt_form names) ss
  forms [] = refl
  forms (s ∷ ss) = ap (λ l. stmt_form names s ∷ l) (forms ss)

  together_form : (ss : List Stmt) (k : ℕ) → together (map (placed names) ss) k ≡ (together_of (map stmt_span ss) (of_all (map (stmt_form names) ss) k).0, (of_all (map (stmt_form names) ss) k).1)
  together_form [] k = refl
  together_form (s ∷ []) k = refl
  together_form (s ∷ t ∷ ss) k =
      ap₂ (λ (from to : ℕ). (in_order (spanning from to) (of_all (map (λ p. p.1) (map (placed names) (s ∷ t ∷ ss))) k).0, (of_all (map (λ p. p.1) (map (placed names) (s ∷ t ∷ ss))) k).1)) (ap (λ at. at.from) (span_placed s)) (end_placed t ss)
      ∙ ap (λ l. (in_order (span_of_all (map stmt_span (s ∷ t ∷ ss))) (of_all l k).0, (of_all l k).1)) (forms (s ∷ t ∷ ss))

  -- when the loop is over
  pub all_together : (ss : List Stmt) (i k m : ℕ) (cs : List Core) (c : Core) → length ss ≤ i → behind cs (of_all (map (stmt_form names) (drop i ss)) m) ≡ of_all (map (stmt_form names) ss) k → c ≡ together_of (map stmt_span ss) cs
      → stmts_form names ss k ≡ (c, m)
  all_together ss i k m cs c le so_far is =
      let over : of_all (map (stmt_form names) ss) k ≡ (cs, m) = sym so_far ∙ ap (λ l. behind cs (of_all (map (stmt_form names) l) m)) (drop_all i ss le) ∙ ap (λ l. (l, m)) (append-nil cs) in
      together_form ss k ∙ ap (λ p. (together_of (map stmt_span ss) p.0, p.1)) over ∙ ap (λ d. (d, m)) (sym is)

-- the last of several spans
end_at : (at d : Span) (spans : List Span) → end_of at spans ≡ (get_or (at ∷ spans) (length spans) d).to
end_at at d [] = refl
end_at at d (next ∷ spans) = end_at next d spans
