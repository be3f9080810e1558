-- What holds of each name of a written query holds of each name of the core query that it stands
-- for.
use Rattle.std.proofs.Common.{ℕ, List, [], ◌∷◌, ◌++◌, Some, None, map, flat_map, All, sym, subst}
use Rattle.std.proofs.lemmas.List.Elements.{All-nil, All-cons, All-head, All-tail}
use Rattle.flux_calculus.specs.declared.ask.Span.{Span}
use Rattle.flux_calculus.specs.Labels.{EachLabelOfTest}
use Rattle.flux_calculus.specs.Query.{Query, listed}
use Rattle.flux_grammar.specs.declared.tree.Expr.{Expr, roll-Expr}
use Rattle.flux_grammar.specs.declared.tree.Expr.TheOpen.{Expr-F}
use Rattle.flux_grammar.specs.declared.tree.Expr.TheFolds.{fold-roll-Expr, map-Expr, ind-Expr}
use Rattle.flux_grammar.specs.declared.tree.QueryStep.{QueryStep}
use Rattle.flux_grammar.specs.declared.tree.QueryStep.TheVariants.{Down, Child, Filter}
use Rattle.flux_grammar.specs.declared.tree.TestText.{TestText}
use Rattle.flux_grammar.specs.declared.tree.TestText.TheVariants.{Label, AnyElement, OfText, OfBool, OfInt}
use Rattle.flux_grammar.specs.Names.{of_several, names_in_query_step, names_in_expr_step, names_in_expr, TestNames, ExprNames}
use Rattle.flux_grammar.specs.NormalNames.{QueryNames}
use Rattle.flux_grammar.specs.NormalQueries.{Numbered, of_all, test_of, step_on, steps_on, expr_step, query_form}
use Rattle.flux_grammar.proofs.NameLists.{all_first, all_second}

module _ (P : ℕ → Type 0) where
  -- P holds of each name of the query, whatever number its variables begin with
  abbrev pub FormNames : Numbered Query → Type 0
  FormNames e = (k : ℕ) → QueryNames P (e k).0

  abbrev Keeps : Expr → Type 0
  Keeps e = ExprNames P e → FormNames (query_form e)

  abbrev Kept : Type 0
  Kept = (e : Expr) × Keeps e

  pub test_keeps : (t : TestText) → TestNames P t → EachLabelOfTest P (test_of t)
  test_keeps (Label n) all = All-head P n [] all
  test_keeps AnyElement all = tt
  test_keeps OfText all = tt
  test_keeps OfBool all = tt
  test_keeps OfInt all = tt

  of_step : (e : Numbered Query) (s : QueryStep) → FormNames e → All P (names_in_query_step s) → FormNames (step_on e s)
  of_step e (Down t at) holds all k = (tt, holds k, (tt, test_keeps t all))
  of_step e (Child at) holds all k = (tt, holds k, tt)
  of_step e (Filter t at) holds all k = (holds k, test_keeps t all)

  of_steps : (e : Numbered Query) (ss : List QueryStep) → FormNames e → All P (flat_map names_in_query_step ss) → FormNames (steps_on e ss)
  of_steps e [] holds all = holds
  of_steps e (s ∷ ss) holds all =
      of_steps (step_on e s) ss (of_step e s holds (all_first P (names_in_query_step s) (flat_map names_in_query_step ss) all)) (all_second P (names_in_query_step s) (flat_map names_in_query_step ss) all)

  of_listed : (at : Span) (es : List Kept) → All P (of_several (map names_in_expr (map (λ e. e.0) es))) → (k : ℕ) → QueryNames P (listed at (of_all (map query_form (map (λ e. e.0) es)) k).0)
  of_listed at [] all k = tt
  of_listed at (e ∷ es) all k =
      let others = of_several (map names_in_expr (map (λ (e : Kept). e.0) es)) in
      (e.1 (all_first P (names_in_expr e.0) others all) k, of_listed at es (all_second P (names_in_expr e.0) others all) (query_form e.0 k).1)

  -- of two parts, and of three, where a name may stand before them
  abbrev Two : Kept → Kept → Type 0
  Two e f = (k : ℕ) → QueryNames P (query_form e.0 k).0 × QueryNames P (query_form f.0 (query_form e.0 k).1).0

  two : (e f : Kept) → All P (names_in_expr e.0 ++ names_in_expr f.0) → Two e f
  two e f all k =
      (e.1 (all_first P (names_in_expr e.0) (names_in_expr f.0) all) k, f.1 (all_second P (names_in_expr e.0) (names_in_expr f.0) all) (query_form e.0 k).1)

  -- of a layer with what is known of its parts
  by_layer : (y : Expr-F Kept) → All P (names_in_expr_step (map-Expr Expr (List ℕ) names_in_expr (map-Expr Kept Expr (λ e. e.0) y))) → FormNames (expr_step (map-Expr Expr (Numbered Query) query_form (map-Expr Kept Expr (λ e. e.0) y)))
  by_layer (Expr-F.List es at) all = of_listed at es all
  by_layer (Expr-F.For x e f at) all =
      λ k. let both = two e f (All-tail P x (names_in_expr e.0 ++ names_in_expr f.0) all) k in (All-head P x (names_in_expr e.0 ++ names_in_expr f.0) all, both.0, both.1)
  by_layer (Expr-F.Let x e f at) all =
      λ k. let both = two e f (All-tail P x (names_in_expr e.0 ++ names_in_expr f.0) all) k in (All-head P x (names_in_expr e.0 ++ names_in_expr f.0) all, both.0, both.1)
  by_layer (Expr-F.If c e f at) all =
      λ k.
      let both = two e f (all_second P (names_in_expr c.0) (names_in_expr e.0 ++ names_in_expr f.0) all) (query_form c.0 k).1 in
      (c.1 (all_first P (names_in_expr c.0) (names_in_expr e.0 ++ names_in_expr f.0) all) k, both.0, both.1)
  by_layer (Expr-F.Same e f at) all = λ k. two e f all k
  by_layer (Expr-F.Less e f at) all = λ k. two e f all k
  by_layer (Expr-F.Stepped e ss at) all =
      of_steps (query_form e.0) ss (e.1 (all_first P (names_in_expr e.0) (flat_map names_in_query_step ss) all)) (all_second P (names_in_expr e.0) (flat_map names_in_query_step ss) all)
  by_layer (Expr-F.Group None at) all = λ k. tt
  by_layer (Expr-F.Group (Some e) at) all = e.1 all
  by_layer (Expr-F.Lit x at) all = λ k. tt
  by_layer (Expr-F.Var x at) all = λ k. All-head P x [] all
  by_layer (Expr-F.Elem n None at) all = λ k. (All-head P n [] all, tt)
  by_layer (Expr-F.Elem n (Some e) at) all =
      λ k. (All-head P n (names_in_expr e.0) all, e.1 (All-tail P n (names_in_expr e.0) all) k)

  layer_keeps : (y : Expr-F Kept) → Keeps (roll-Expr (map-Expr Kept Expr (λ e. e.0) y))
  layer_keeps y all =
      let x = map-Expr Kept Expr (λ e. e.0) y in
      subst FormNames (sym (fold-roll-Expr (Numbered Query) expr_step x)) (by_layer y (subst (All P) (fold-roll-Expr (List ℕ) names_in_expr_step x) all))

  pub query_keeps : (e : Expr) → ExprNames P e → FormNames (query_form e)
  query_keeps = ind-Expr Keeps (λ x y is. subst (λ z. Keeps (roll-Expr z)) is (layer_keeps y))

  -- so it does of several
  pub queries_keep : (es : List Expr) → All P (flat_map names_in_expr es) → (k : ℕ) → All (QueryNames P) (of_all (map query_form es) k).0
  queries_keep [] all k = All-nil (QueryNames P)
  queries_keep (e ∷ es) all k =
      All-cons (QueryNames P) (query_form e k).0 (of_all (map query_form es) (query_form e k).1).0 (query_keeps e (all_first P (names_in_expr e) (flat_map names_in_expr es) all) k) (queries_keep es (all_second P (names_in_expr e) (flat_map names_in_expr es) all) (query_form e k).1)
