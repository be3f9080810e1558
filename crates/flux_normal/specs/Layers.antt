-- What the steps of a path put round a statement.
use Rattle.std.specs.Prelude.{ℕ, List, [], ◌∷◌, Option, Some, None}
use Rattle.std.specs.Option.{option_map}
use Rattle.flux_calculus.specs.declared.ask.Span.{Span}
use Rattle.flux_calculus.specs.declared.ask.Test.{Test}
use Rattle.flux_calculus.specs.declared.ask.Var.TheVariants.{Named}
use Rattle.flux_calculus.specs.Core.{Core, skip, choice, snapshot, test, children, iter}
use Rattle.flux_calculus.specs.Query.{Query}
use Rattle.flux_grammar.specs.declared.tree.Expr.{Expr}
use Rattle.flux_grammar.specs.declared.tree.Step.{Step}
use Rattle.flux_grammar.specs.NormalQueries.{Numbered, plain, of_one, test_of, query_form}
use Rattle.flux_query.specs.Read.{query_of}
use Rattle.flux_normal.specs.declared.paths.Layer.{Layer}

-- a step of a path, with the query that its filter stands for
pub record StepForm : Type 0 where
  pub span : Span
  pub var : Option ℕ
  pub test : Option Test
  pub filter : Option Query

abbrev pub layer_of : Layer → StepForm
layer_of l =
    record {
      span = l.span;
      var = l.var;
      test = l.test;
      filter = option_map query_of l.filter;
    }

abbrev pub filter_form : Option Expr → Numbered (Option Query)
filter_form None = plain None
filter_form (Some e) = of_one (λ q. Some q) (query_form e)

abbrev pub step_form : Step → Numbered StepForm
step_form p =
    of_one
    (λ f. record { span = p.span; var = p.var; test = option_map test_of p.test; filter = f })
    (filter_form p.filter)

-- the parts of a step, round a statement
abbrev pub under_filter : Span → Option Query → Core → Core
under_filter at None s = s
under_filter at (Some q) s = choice at q s (skip at)

abbrev pub under_variable : Span → Option ℕ → Core → Core
under_variable at None s = s
under_variable at (Some x) s = snapshot at (Named x) s

abbrev pub under_test : Span → Option Test → Core → Core
under_test at None s = s
under_test at (Some t) s = iter at (test at t s)

abbrev pub under_step : StepForm → Core → Core
under_step p s =
    under_test p.span p.test (under_variable p.span p.var (under_filter p.span p.filter s))

-- the steps of a path, with a slash between two
abbrev pub under_steps : List StepForm → Core → Core
under_steps [] s = s
under_steps (p ∷ []) s = under_step p s
under_steps (p ∷ q ∷ ps) s = under_step p (children p.span (under_steps (q ∷ ps) s))

-- with a slash behind each
abbrev pub under_slashes : List StepForm → Core → Core
under_slashes [] s = s
under_slashes (p ∷ ps) s = under_step p (children p.span (under_slashes ps s))
