-- The path of a statement that is a `DELETE`.
use Rattle.std.proofs.Common.{◌≡◌, ◌∙◌, sym, ap, ℕ, List, Option, Some, None}
use Rattle.std.proofs.lemmas.Option.{same_Some}
use Rattle.flux_calculus.specs.declared.ask.Span.{Span}
use Rattle.flux_grammar.specs.declared.tree.Expr.{Expr}
use Rattle.flux_grammar.specs.declared.tree.Path.{Path}
use Rattle.flux_grammar.specs.declared.tree.Stmt.{Stmt}
use Rattle.flux_grammar.specs.declared.tree.Stmt.TheOpen.{Stmt-F}
use Rattle.flux_grammar.specs.declared.tree.Stmt.TheFolds.{fold-Stmt, fold-roll-Stmt}
use Rattle.flux_grammar.specs.declared.tree.Stmt.TheVariants.{Update, If, Let, Guarded, Skip, Insert, InsertBefore, InsertAfter, InsertFirst, InsertLast, Delete, DeleteFrom, Rename, Replace, ReplaceIn, Call, Block, rolls-Update, rolls-If, rolls-Let, rolls-Guarded, rolls-Skip, rolls-Insert, rolls-InsertBefore, rolls-InsertAfter, rolls-InsertFirst, rolls-InsertLast, rolls-Delete, rolls-DeleteFrom, rolls-Rename, rolls-Replace, rolls-ReplaceIn, rolls-Call, rolls-Block}

abbrev deleted_step : Stmt-F (Option Path) → Option Path
deleted_step (Stmt-F.Delete p at) = Some p
deleted_step _ = None

abbrev pub deleted_by : Stmt → Option Path
deleted_by = fold-Stmt (Option Path) deleted_step

pub of_delete : (p : Path) (at : Span) → deleted_by (Delete p at) ≡ Some p
of_delete p at = ap deleted_by (sym (rolls-Delete p at)) ∙ fold-roll-Stmt (Option Path) deleted_step (Stmt-F.Delete p at)

pub of_update : (p : Path) (s : Stmt) (at : Span) → deleted_by (Update p s at) ≡ None
of_update p s at = ap deleted_by (sym (rolls-Update p s at)) ∙ fold-roll-Stmt (Option Path) deleted_step (Stmt-F.Update p s at)

pub of_if : (q : Expr) (s r : Stmt) (at : Span) → deleted_by (If q s r at) ≡ None
of_if q s r at = ap deleted_by (sym (rolls-If q s r at)) ∙ fold-roll-Stmt (Option Path) deleted_step (Stmt-F.If q s r at)

pub of_let : (x : ℕ) (q : Expr) (s : Stmt) (at : Span) → deleted_by (Let x q s at) ≡ None
of_let x q s at = ap deleted_by (sym (rolls-Let x q s at)) ∙ fold-roll-Stmt (Option Path) deleted_step (Stmt-F.Let x q s at)

pub of_guarded : (s : Stmt) (q : Expr) (at : Span) → deleted_by (Guarded s q at) ≡ None
of_guarded s q at = ap deleted_by (sym (rolls-Guarded s q at)) ∙ fold-roll-Stmt (Option Path) deleted_step (Stmt-F.Guarded s q at)

pub of_skip : (at : Span) → deleted_by (Skip at) ≡ None
of_skip at = ap deleted_by (sym (rolls-Skip at)) ∙ fold-roll-Stmt (Option Path) deleted_step (Stmt-F.Skip at)

pub of_insert : (q : Expr) (at : Span) → deleted_by (Insert q at) ≡ None
of_insert q at = ap deleted_by (sym (rolls-Insert q at)) ∙ fold-roll-Stmt (Option Path) deleted_step (Stmt-F.Insert q at)

pub of_insert_before : (p : Path) (q : Expr) (at : Span) → deleted_by (InsertBefore p q at) ≡ None
of_insert_before p q at = ap deleted_by (sym (rolls-InsertBefore p q at)) ∙ fold-roll-Stmt (Option Path) deleted_step (Stmt-F.InsertBefore p q at)

pub of_insert_after : (p : Path) (q : Expr) (at : Span) → deleted_by (InsertAfter p q at) ≡ None
of_insert_after p q at = ap deleted_by (sym (rolls-InsertAfter p q at)) ∙ fold-roll-Stmt (Option Path) deleted_step (Stmt-F.InsertAfter p q at)

pub of_insert_first : (p : Path) (q : Expr) (at : Span) → deleted_by (InsertFirst p q at) ≡ None
of_insert_first p q at = ap deleted_by (sym (rolls-InsertFirst p q at)) ∙ fold-roll-Stmt (Option Path) deleted_step (Stmt-F.InsertFirst p q at)

pub of_insert_last : (p : Path) (q : Expr) (at : Span) → deleted_by (InsertLast p q at) ≡ None
of_insert_last p q at = ap deleted_by (sym (rolls-InsertLast p q at)) ∙ fold-roll-Stmt (Option Path) deleted_step (Stmt-F.InsertLast p q at)

pub of_delete_from : (p : Path) (at : Span) → deleted_by (DeleteFrom p at) ≡ None
of_delete_from p at = ap deleted_by (sym (rolls-DeleteFrom p at)) ∙ fold-roll-Stmt (Option Path) deleted_step (Stmt-F.DeleteFrom p at)

pub of_rename : (p : Path) (n : ℕ) (at : Span) → deleted_by (Rename p n at) ≡ None
of_rename p n at = ap deleted_by (sym (rolls-Rename p n at)) ∙ fold-roll-Stmt (Option Path) deleted_step (Stmt-F.Rename p n at)

pub of_replace : (p : Path) (q : Expr) (at : Span) → deleted_by (Replace p q at) ≡ None
of_replace p q at = ap deleted_by (sym (rolls-Replace p q at)) ∙ fold-roll-Stmt (Option Path) deleted_step (Stmt-F.Replace p q at)

pub of_replace_in : (p : Path) (q : Expr) (at : Span) → deleted_by (ReplaceIn p q at) ≡ None
of_replace_in p q at = ap deleted_by (sym (rolls-ReplaceIn p q at)) ∙ fold-roll-Stmt (Option Path) deleted_step (Stmt-F.ReplaceIn p q at)

pub of_call : (n : ℕ) (qs : List Expr) (at : Span) → deleted_by (Call n qs at) ≡ None
of_call n qs at = ap deleted_by (sym (rolls-Call n qs at)) ∙ fold-roll-Stmt (Option Path) deleted_step (Stmt-F.Call n qs at)

pub of_block : (ss : List Stmt) (at : Span) → deleted_by (Block ss at) ≡ None
of_block ss at = ap deleted_by (sym (rolls-Block ss at)) ∙ fold-roll-Stmt (Option Path) deleted_step (Stmt-F.Block ss at)

-- a statement deletes one path at most
pub one_deleted : (s : Stmt) (p q : Path) (a b : Span) → s ≡ Delete p a → s ≡ Delete q b → p ≡ q
one_deleted s p q a b is are =
    same_Some p q (sym (of_delete p a) ∙ ap deleted_by (sym is ∙ are) ∙ of_delete q b)

-- a statement of another kind deletes none
pub none_deleted : (s : Stmt) (p : Path) (at : Span) → deleted_by s ≡ None → s ≡ Delete p at → ⊥
none_deleted s p at other is =
    let both : None ≡ Some p = sym other ∙ ap deleted_by is ∙ of_delete p at in cc
