-- What the forms of queries stand for, a constructor at a time.
use Rattle.std.proofs.Common.{◌≡◌, ℕ, List, Some, None, map, sym, ap, ◌∙◌}
use Rattle.flux_calculus.specs.declared.ask.Span.{Span}
use Rattle.flux_calculus.specs.declared.ask.Var.TheVariants.{Named}
use Rattle.flux_calculus.specs.Query.{Query, nothing, listed, element, binding, choice, alike, less, each}
use Rattle.flux_grammar.specs.declared.tree.Expr.{Expr}
use Rattle.flux_grammar.specs.declared.tree.Expr.TheOpen.{Expr-F}
use Rattle.flux_grammar.specs.declared.tree.Expr.TheFolds.{fold-roll-Expr}
use Rattle.flux_grammar.specs.declared.tree.Expr.TheVariants as is
use Rattle.flux_grammar.specs.declared.tree.QueryStep.{QueryStep}
use Rattle.flux_grammar.specs.NormalQueries.{Numbered, plain, of_one, of_two, of_three, of_all, steps_on, expr_step, query_form}

pub of_list : (es : List Expr) (at : Span) → query_form (is.List es at) ≡ of_one (listed at) (of_all (map query_form es))
of_list es at = ap query_form (sym (is.rolls-List es at)) ∙ fold-roll-Expr (Numbered Query) expr_step (Expr-F.List es at)

pub of_for : (x : ℕ) (e f : Expr) (at : Span) → query_form (is.For x e f at) ≡ of_two (each at (Named x)) (query_form e) (query_form f)
of_for x e f at = ap query_form (sym (is.rolls-For x e f at)) ∙ fold-roll-Expr (Numbered Query) expr_step (Expr-F.For x e f at)

pub of_let : (x : ℕ) (e f : Expr) (at : Span) → query_form (is.Let x e f at) ≡ of_two (binding at (Named x)) (query_form e) (query_form f)
of_let x e f at = ap query_form (sym (is.rolls-Let x e f at)) ∙ fold-roll-Expr (Numbered Query) expr_step (Expr-F.Let x e f at)

pub of_if : (c e f : Expr) (at : Span) → query_form (is.If c e f at) ≡ of_three (choice at) (query_form c) (query_form e) (query_form f)
of_if c e f at = ap query_form (sym (is.rolls-If c e f at)) ∙ fold-roll-Expr (Numbered Query) expr_step (Expr-F.If c e f at)

pub of_same : (e f : Expr) (at : Span) → query_form (is.Same e f at) ≡ of_two (alike at) (query_form e) (query_form f)
of_same e f at = ap query_form (sym (is.rolls-Same e f at)) ∙ fold-roll-Expr (Numbered Query) expr_step (Expr-F.Same e f at)

pub of_less : (e f : Expr) (at : Span) → query_form (is.Less e f at) ≡ of_two (less at) (query_form e) (query_form f)
of_less e f at = ap query_form (sym (is.rolls-Less e f at)) ∙ fold-roll-Expr (Numbered Query) expr_step (Expr-F.Less e f at)

pub of_stepped : (e : Expr) (ss : List QueryStep) (at : Span) → query_form (is.Stepped e ss at) ≡ steps_on (query_form e) ss
of_stepped e ss at = ap query_form (sym (is.rolls-Stepped e ss at)) ∙ fold-roll-Expr (Numbered Query) expr_step (Expr-F.Stepped e ss at)

pub of_element : (n : ℕ) (e : Expr) (at : Span) → query_form (is.Elem n (Some e) at) ≡ of_one (element at n) (query_form e)
of_element n e at = ap query_form (sym (is.rolls-Elem n (Some e) at)) ∙ fold-roll-Expr (Numbered Query) expr_step (Expr-F.Elem n (Some e) at)

pub of_empty : (n : ℕ) (at : Span) → query_form (is.Elem n None at) ≡ of_one (element at n) (plain (nothing at))
of_empty n at = ap query_form (sym (is.rolls-Elem n None at)) ∙ fold-roll-Expr (Numbered Query) expr_step (Expr-F.Elem n None at)
