-- Where a type, a query and a statement stand in the script.
use Rattle.flux_calculus.specs.declared.ask.Span.{Span}
use Rattle.flux_grammar.specs.declared.tree.TypeText.{TypeText}
use Rattle.flux_grammar.specs.declared.tree.TypeText.TheOpen.{TypeText-F}
use Rattle.flux_grammar.specs.declared.tree.TypeText.TheFolds.{fold-TypeText}
use Rattle.flux_grammar.specs.declared.tree.Expr.{Expr}
use Rattle.flux_grammar.specs.declared.tree.Expr.TheOpen.{Expr-F}
use Rattle.flux_grammar.specs.declared.tree.Expr.TheFolds.{fold-Expr}
use Rattle.flux_grammar.specs.declared.tree.Stmt.{Stmt}
use Rattle.flux_grammar.specs.declared.tree.Stmt.TheOpen.{Stmt-F}
use Rattle.flux_grammar.specs.declared.tree.Stmt.TheFolds.{fold-Stmt}

abbrev pub type_span_step : TypeText-F Span → Span
type_span_step (TypeText-F.Alt ts at) = at
type_span_step (TypeText-F.Seq ts at) = at
type_span_step (TypeText-F.Marked t ms at) = at
type_span_step (TypeText-F.Group t at) = at
type_span_step (TypeText-F.Elem n t at) = at
type_span_step (TypeText-F.AnyElem t at) = at
type_span_step (TypeText-F.Kind k at) = at
type_span_step (TypeText-F.Named n at) = at

abbrev pub type_span : TypeText → Span
type_span = fold-TypeText Span type_span_step

abbrev pub expr_span_step : Expr-F Span → Span
expr_span_step (Expr-F.List qs at) = at
expr_span_step (Expr-F.For x q r at) = at
expr_span_step (Expr-F.Let x q r at) = at
expr_span_step (Expr-F.If q r s at) = at
expr_span_step (Expr-F.Same q r at) = at
expr_span_step (Expr-F.Less q r at) = at
expr_span_step (Expr-F.Stepped q ss at) = at
expr_span_step (Expr-F.Group q at) = at
expr_span_step (Expr-F.Lit a at) = at
expr_span_step (Expr-F.Var x at) = at
expr_span_step (Expr-F.Elem n q at) = at

abbrev pub expr_span : Expr → Span
expr_span = fold-Expr Span expr_span_step

abbrev pub stmt_span_step : {A : Type 0} → Stmt-F A → Span
stmt_span_step (Stmt-F.Update p s at) = at
stmt_span_step (Stmt-F.If q s r at) = at
stmt_span_step (Stmt-F.Let x q s at) = at
stmt_span_step (Stmt-F.Guarded s q at) = at
stmt_span_step (Stmt-F.Skip at) = at
stmt_span_step (Stmt-F.Insert q at) = at
stmt_span_step (Stmt-F.InsertBefore p q at) = at
stmt_span_step (Stmt-F.InsertAfter p q at) = at
stmt_span_step (Stmt-F.InsertFirst p q at) = at
stmt_span_step (Stmt-F.InsertLast p q at) = at
stmt_span_step (Stmt-F.Delete p at) = at
stmt_span_step (Stmt-F.DeleteFrom p at) = at
stmt_span_step (Stmt-F.Rename p n at) = at
stmt_span_step (Stmt-F.Replace p q at) = at
stmt_span_step (Stmt-F.ReplaceIn p q at) = at
stmt_span_step (Stmt-F.Call n qs at) = at
stmt_span_step (Stmt-F.Block ss at) = at

abbrev pub stmt_span : Stmt → Span
stmt_span = fold-Stmt Span stmt_span_step
