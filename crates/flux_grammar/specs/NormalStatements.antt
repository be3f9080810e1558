-- The core statement that a written statement stands for.
use Rattle.std.specs.Prelude.{ℕ, ◌==◌, List, [], ◌∷◌, Option, Some, None, map}
use Rattle.std.specs.List.{position_or_len}
use Rattle.flux_calculus.specs.declared.ask.Span.{Span}
use Rattle.flux_calculus.specs.declared.ask.Var.TheVariants.{Named}
use Rattle.flux_calculus.specs.Core.{Core, skip, nothing, in_order, choice, binding, snapshot, insert, delete, rename, test, children, left, right, iter, call}
use Rattle.flux_grammar.specs.declared.tree.Expr.{Expr}
use Rattle.flux_grammar.specs.declared.tree.Path.{Path}
use Rattle.flux_grammar.specs.declared.tree.Step.{Step}
use Rattle.flux_grammar.specs.declared.tree.Stmt.{Stmt}
use Rattle.flux_grammar.specs.declared.tree.Stmt.TheOpen.{Stmt-F}
use Rattle.flux_grammar.specs.declared.tree.Stmt.TheFolds.{fold-Stmt}
use Rattle.flux_grammar.specs.declared.tree.TestText.{TestText}
use Rattle.flux_grammar.specs.Grammar.{spanning}
use Rattle.flux_grammar.specs.NormalQueries.{Numbered, plain, of_one, of_two, of_three, of_all, test_of, query_form}
use Rattle.flux_grammar.specs.Spans.{stmt_span_step}

-- a filter: `s` becomes `if e then s else skip`
abbrev pub filtered : Span → Option Expr → Numbered Core → Numbered Core
filtered at None s = s
filtered at (Some e) s = of_two (λ c t. choice at c t (skip at)) (query_form e) s

-- `$x AS`: then `snapshot x in` that
abbrev pub remembered : Span → Option ℕ → Numbered Core → Numbered Core
remembered at None s = s
remembered at (Some x) s = of_one (snapshot at (Named x)) s

-- a test: then `iter[φ?..]` of that; `.` leaves it
abbrev pub tested : Span → Option TestText → Numbered Core → Numbered Core
tested at None s = s
tested at (Some t) s = of_one (λ c. iter at (test at (test_of t) c)) s

abbrev pub on_step : Step → Numbered Core → Numbered Core
on_step p s = tested p.span p.test (remembered p.span p.var (filtered p.span p.filter s))

-- `p1/p2/../pk` on `s` is `p1(children[p2(.. children[pk(s)] ..)])`
abbrev pub on_steps : List Step → Numbered Core → Numbered Core
on_steps [] s = s
on_steps (p ∷ []) s = on_step p s
on_steps (p ∷ q ∷ ps) s = on_step p (of_one (children p.span) (on_steps (q ∷ ps) s))

abbrev pub on_path : Path → Numbered Core → Numbered Core
on_path path s = on_steps path.steps s

-- a statement that stands at a span, and what it stands for
abbrev pub Placed : Type 0
Placed = Span × Numbered Core

abbrev pub last_end : Placed → List Placed → ℕ
last_end s [] = s.0.to
last_end s (t ∷ ss) = last_end t ss

-- one statement is that statement, several are one behind the other
abbrev pub together : List Placed → Numbered Core
together [] = plain (nothing (spanning 0 0))
together (s ∷ []) = s.1
together (s ∷ t ∷ ss) =
    of_one (in_order (spanning s.0.from (last_end t ss))) (of_all (map (λ p. p.1) (s ∷ t ∷ ss)))

-- the procedure that has the name, as the number of those that stand before it
abbrev pub index_of : List ℕ → ℕ → ℕ
index_of procs n = position_or_len (λ m. m == n) procs

-- each form of statement, and what it stands for, where procedures have these names
abbrev pub stmt_step : List ℕ → Stmt-F Placed → Numbered Core
stmt_step procs (Stmt-F.Update p s at) = on_path p s.1
stmt_step procs (Stmt-F.If e s t at) = of_three (choice at) (query_form e) s.1 t.1
stmt_step procs (Stmt-F.Let x e s at) = of_two (binding at (Named x)) (query_form e) s.1
stmt_step procs (Stmt-F.Guarded s e at) =
    of_two (λ t c. choice at c t (skip at)) s.1 (query_form e)
stmt_step procs (Stmt-F.Skip at) = plain (skip at)
stmt_step procs (Stmt-F.Insert e at) = of_one (insert at) (query_form e)
stmt_step procs (Stmt-F.InsertBefore p e at) =
    on_path p (of_one (λ q. left at (insert at q)) (query_form e))
stmt_step procs (Stmt-F.InsertAfter p e at) =
    on_path p (of_one (λ q. right at (insert at q)) (query_form e))
stmt_step procs (Stmt-F.InsertFirst p e at) =
    on_path p (of_one (λ q. children at (left at (insert at q))) (query_form e))
stmt_step procs (Stmt-F.InsertLast p e at) =
    on_path p (of_one (λ q. children at (right at (insert at q))) (query_form e))
stmt_step procs (Stmt-F.Delete p at) = on_path p (plain (delete at))
stmt_step procs (Stmt-F.DeleteFrom p at) = on_path p (plain (children at (delete at)))
stmt_step procs (Stmt-F.Rename p n at) = on_path p (plain (rename at n))
stmt_step procs (Stmt-F.Replace p e at) =
    on_path p (of_one (λ q. in_order at (delete at ∷ insert at q ∷ [])) (query_form e))
stmt_step procs (Stmt-F.ReplaceIn p e at) =
    on_path p (of_one (λ q. children at (in_order at (delete at ∷ insert at q ∷ []))) (query_form e))
stmt_step procs (Stmt-F.Call n es at) =
    of_one (call at (index_of procs n)) (of_all (map query_form es))
stmt_step procs (Stmt-F.Block ss at) = together ss

abbrev pub placed : List ℕ → Stmt → Placed
placed procs = fold-Stmt Placed (λ s. (stmt_span_step s, stmt_step procs s))

abbrev pub stmt_form : List ℕ → Stmt → Numbered Core
stmt_form procs s = (placed procs s).1

abbrev pub stmts_form : List ℕ → List Stmt → Numbered Core
stmts_form procs ss = together (map (placed procs) ss)
