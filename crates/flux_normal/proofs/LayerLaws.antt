-- A path round a statement: its filters, and then what is inside.
use Rattle.std.proofs.Common.{◌≡◌, ℕ, List, [], ◌∷◌, Option, Some, None, Result, Ok, Err, IfOk, map, refl, sym, ap, ◌∙◌, option_map}
use Rattle.flux_calculus.specs.declared.ask.Span.{Span}
use Rattle.flux_calculus.specs.Core as calculus
use Rattle.flux_calculus.specs.Core.{children}
use Rattle.flux_calculus.specs.Query.{Query}
use Rattle.flux_core.specs.declared.statement.Core.{Core}
use Rattle.flux_core.specs.Statements.{core_of}
use Rattle.flux_grammar.specs.declared.tree.Expr.{Expr}
use Rattle.flux_grammar.specs.declared.tree.Path.{Path}
use Rattle.flux_grammar.specs.declared.tree.Step.{Step}
use Rattle.flux_grammar.specs.declared.tree.TestText.{TestText}
use Rattle.flux_grammar.specs.NormalQueries.{Numbered, of_one, of_all, test_of}
use Rattle.flux_grammar.specs.NormalStatements.{filtered, remembered, tested, on_step, on_steps, on_path}
use Rattle.flux_normal.specs.Layers.{StepForm, filter_form, step_form, under_filter, under_variable, under_test, under_step, under_steps}

step_at : (at : Span) (v : Option ℕ) (t : Option TestText) (f : Option Expr) (s : Numbered calculus.Core) (k : ℕ)
    → tested at t (remembered at v (filtered at f s)) k ≡ (under_test at (option_map test_of t) (under_variable at v (under_filter at (filter_form f k).0 (s (filter_form f k).1).0)), (s (filter_form f k).1).1)
step_at at None None None s k = refl
step_at at None None (Some e) s k = refl
step_at at None (Some t) None s k = refl
step_at at None (Some t) (Some e) s k = refl
step_at at (Some v) None None s k = refl
step_at at (Some v) None (Some e) s k = refl
step_at at (Some v) (Some t) None s k = refl
step_at at (Some v) (Some t) (Some e) s k = refl

step_split : (p : Step) (s : Numbered calculus.Core) (k : ℕ) → on_step p s k ≡ (under_step (step_form p k).0 (s (step_form p k).1).0, (s (step_form p k).1).1)
step_split p s k = step_at p.span p.var p.test p.filter s k

abbrev steps_form : List Step → Numbered (List StepForm)
steps_form ps = of_all (map step_form ps)

steps_split : (ps : List Step) (s : Numbered calculus.Core) (k : ℕ) → on_steps ps s k ≡ (under_steps (steps_form ps k).0 (s (steps_form ps k).1).0, (s (steps_form ps k).1).1)
steps_split [] s k = refl
steps_split (p ∷ []) s k = step_split p s k
steps_split (p ∷ q ∷ ps) s k =
    step_split p (of_one (children p.span) (on_steps (q ∷ ps) s)) k
    ∙ ap (λ z. (under_step (step_form p k).0 (children p.span z.0), z.1)) (steps_split (q ∷ ps) s (step_form p k).1)

path_form : (p : Path) (s : Numbered calculus.Core) (k m n : ℕ) (ps : List StepForm) (t u : calculus.Core) → of_all (map step_form p.steps) k ≡ (ps, m) → s m ≡ (t, n) → u ≡ under_steps ps t
    → on_path p s k ≡ (u, n)
path_form p s k m n ps t u layers inner made =
    steps_split p.steps s k
    ∙ ap (λ r. (under_steps r.0 (s r.1).0, (s r.1).1)) layers
    ∙ ap (λ z. (under_steps ps z.0, z.1)) inner
    ∙ ap (λ c. (c, n)) (sym made)

pub path_made : {E : Type 0} (p : Path) (s : Numbered calculus.Core) (k m n : ℕ) (ps : List StepForm) (t : calculus.Core) (r : Result Core E) → of_all (map step_form p.steps) k ≡ (ps, m) → s m ≡ (t, n) → IfOk r (λ made. core_of made ≡ under_steps ps t)
    → IfOk r (λ made. on_path p s k ≡ (core_of made, n))
path_made p s k m n ps t (Ok made) layers inner is = path_form p s k m n ps t (core_of made) layers inner is
path_made p s k m n ps t (Err e) layers inner is = tt

-- what is made of a query, inside of something
pub outside : (f : calculus.Core → calculus.Core) (g : Query → calculus.Core) (x : Numbered Query) (m n : ℕ) (t u : calculus.Core) → of_one g x m ≡ (t, n) → u ≡ f t → of_one (λ q. f (g q)) x m ≡ (u, n)
outside f g x m n t u inner is = ap (λ z. (f z.0, z.1)) inner ∙ ap (λ c. (c, n)) (sym is)
