-- The core query that a written query stands for.
use Rattle.std.specs.Prelude.{ℕ, suc, List, [], ◌∷◌, Option, Some, None}
use Rattle.flux_calculus.specs.declared.ask.Span.{Span}
use Rattle.flux_calculus.specs.declared.ask.Test.{Test}
use Rattle.flux_calculus.specs.declared.ask.Test.TheVariants as test
use Rattle.flux_calculus.specs.declared.ask.Var.{Var}
use Rattle.flux_calculus.specs.declared.ask.Var.TheVariants.{Named, Made}
use Rattle.flux_calculus.specs.Query.{Query, nothing, listed, element, literal, variable, binding, choice, alike, less, child, filter, each}
use Rattle.flux_grammar.specs.declared.tree.Expr.{Expr}
use Rattle.flux_grammar.specs.declared.tree.Expr.TheOpen.{Expr-F}
use Rattle.flux_grammar.specs.declared.tree.Expr.TheFolds.{fold-Expr}
use Rattle.flux_grammar.specs.declared.tree.QueryStep.{QueryStep}
use Rattle.flux_grammar.specs.declared.tree.QueryStep.TheVariants.{Down, Child, Filter}
use Rattle.flux_grammar.specs.declared.tree.TestText.{TestText}
use Rattle.flux_grammar.specs.declared.tree.TestText.TheVariants as written

-- what a part of a script stands for. Its steps of queries make variables, which are numbered
-- through the script: where so many are made before it, it stands for this, and so many are made
-- then
abbrev pub Numbered : Type 0 → Type 0
Numbered A = ℕ → A × ℕ

-- no variable is made
abbrev pub plain : {A : Type 0} → A → Numbered A
plain a k = (a, k)

-- what is made of one part, of two, of three, of each of a list, in the order of the text
abbrev pub of_one : {A B : Type 0} → (A → B) → Numbered A → Numbered B
of_one make x k = (make (x k).0, (x k).1)

abbrev pub of_two : {A B C : Type 0} → (A → B → C) → Numbered A → Numbered B → Numbered C
of_two make x y k = (make (x k).0 (y (x k).1).0, (y (x k).1).1)

abbrev pub of_three : {A B C D : Type 0}
    → (A → B → C → D) → Numbered A → Numbered B → Numbered C → Numbered D
of_three make x y z = of_two (λ f c. f c) (of_two make x y) z

abbrev pub of_all : {A : Type 0} → List (Numbered A) → Numbered (List A)
of_all [] = plain []
of_all (x ∷ xs) = of_two (λ a rest. a ∷ rest) x (of_all xs)

-- what is made of a part and of the next variable, which is made behind it
abbrev pub with_variable : {A B : Type 0} → (Var → A → B) → Numbered A → Numbered B
with_variable make x k = (make (Made (suc (x k).1)) (x k).0, suc (x k).1)

abbrev pub test_of : TestText → Test
test_of (written.Label n) = test.Label n
test_of written.AnyElement = test.AnyElement
test_of written.OfText = test.OfText
test_of written.OfBool = test.OfBool
test_of written.OfInt = test.OfInt

-- `e/φ` is `for y in e return Filter(Child(y), φ)`, `e/child()` is `for y in e return Child(y)`,
-- `e::φ` is `Filter(e, φ)`
abbrev pub step_on : Numbered Query → QueryStep → Numbered Query
step_on e (Down t at) = with_variable (λ y q. each at y q (filter at (child at y) (test_of t))) e
step_on e (Child at) = with_variable (λ y q. each at y q (child at y)) e
step_on e (Filter t at) = of_one (λ q. filter at q (test_of t)) e

abbrev pub steps_on : Numbered Query → List QueryStep → Numbered Query
steps_on e [] = e
steps_on e (s ∷ ss) = steps_on (step_on e s) ss

-- `()` and content that is left out are an empty list of queries
abbrev pub or_nothing : Span → Option (Numbered Query) → Numbered Query
or_nothing at None = plain (nothing at)
or_nothing at (Some e) = e

-- each form of query, and what it stands for
abbrev pub expr_step : Expr-F (Numbered Query) → Numbered Query
expr_step (Expr-F.List es at) = of_one (listed at) (of_all es)
expr_step (Expr-F.For x e f at) = of_two (each at (Named x)) e f
expr_step (Expr-F.Let x e f at) = of_two (binding at (Named x)) e f
expr_step (Expr-F.If c e f at) = of_three (choice at) c e f
expr_step (Expr-F.Same e f at) = of_two (alike at) e f
expr_step (Expr-F.Less e f at) = of_two (less at) e f
expr_step (Expr-F.Stepped e ss at) = steps_on e ss
expr_step (Expr-F.Group e at) = or_nothing at e
expr_step (Expr-F.Lit x at) = plain (literal at x)
expr_step (Expr-F.Var x at) = plain (variable at (Named x))
expr_step (Expr-F.Elem n e at) = of_one (element at n) (or_nothing at e)

abbrev pub query_form : Expr → Numbered Query
query_form = fold-Expr (Numbered Query) expr_step
