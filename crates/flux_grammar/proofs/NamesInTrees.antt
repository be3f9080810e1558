-- The names of trees, a constructor at a time.
use Rattle.std.proofs.Common.{◌≡◌, ℕ, List, [], ◌∷◌, ◌++◌, Option, Some, None, flat_map, refl, sym, ap, ◌∙◌, append-nil}
use Rattle.flux_atom.specs.declared.atom.Atom.{Atom}
use Rattle.flux_atom.specs.declared.atom.AtomKind.{AtomKind}
use Rattle.flux_calculus.specs.declared.ask.Span.{Span}
use Rattle.flux_grammar.specs.declared.tree.Expr.{Expr}
use Rattle.flux_grammar.specs.declared.tree.Expr.TheOpen.{Expr-F}
use Rattle.flux_grammar.specs.declared.tree.Expr.TheFolds.{fold-roll-Expr}
use Rattle.flux_grammar.specs.declared.tree.Expr.TheVariants as ex
use Rattle.flux_grammar.specs.declared.tree.Mark.{Mark}
use Rattle.flux_grammar.specs.declared.tree.Path.{Path}
use Rattle.flux_grammar.specs.declared.tree.QueryStep.{QueryStep}
use Rattle.flux_grammar.specs.declared.tree.Stmt.{Stmt}
use Rattle.flux_grammar.specs.declared.tree.Stmt.TheOpen.{Stmt-F}
use Rattle.flux_grammar.specs.declared.tree.Stmt.TheFolds.{fold-roll-Stmt}
use Rattle.flux_grammar.specs.declared.tree.Stmt.TheVariants as st
use Rattle.flux_grammar.specs.declared.tree.TypeText.{TypeText}
use Rattle.flux_grammar.specs.declared.tree.TypeText.TheOpen.{TypeText-F}
use Rattle.flux_grammar.specs.declared.tree.TypeText.TheFolds.{fold-roll-TypeText}
use Rattle.flux_grammar.specs.declared.tree.TypeText.TheVariants as ty
use Rattle.flux_grammar.specs.Grammar.{alt_of, seq_of, marked_of, stepped_of, list_of}
use Rattle.flux_grammar.specs.Names.{names_in_type_step, names_in_type, names_in_query_step, names_in_expr_step, names_in_expr, of_content, names_in_path, names_in_stmt_step, names_in_stmt, of_output}
use Rattle.flux_grammar.proofs.NameLists.{several}

-- ---- types
of_alt : (ts : List TypeText) (at : Span) → names_in_type (ty.Alt ts at) ≡ flat_map names_in_type ts
of_alt ts at = ap names_in_type (sym (ty.rolls-Alt ts at)) ∙ fold-roll-TypeText (List ℕ) names_in_type_step (TypeText-F.Alt ts at) ∙ several names_in_type ts

of_seq : (ts : List TypeText) (at : Span) → names_in_type (ty.Seq ts at) ≡ flat_map names_in_type ts
of_seq ts at = ap names_in_type (sym (ty.rolls-Seq ts at)) ∙ fold-roll-TypeText (List ℕ) names_in_type_step (TypeText-F.Seq ts at) ∙ several names_in_type ts

of_marked : (t : TypeText) (ms : List Mark) (at : Span) → names_in_type (ty.Marked t ms at) ≡ names_in_type t
of_marked t ms at = ap names_in_type (sym (ty.rolls-Marked t ms at)) ∙ fold-roll-TypeText (List ℕ) names_in_type_step (TypeText-F.Marked t ms at)

pub of_group : (o : Option TypeText) (at : Span) → names_in_type (ty.Group o at) ≡ of_output o
of_group None at = ap names_in_type (sym (ty.rolls-Group None at)) ∙ fold-roll-TypeText (List ℕ) names_in_type_step (TypeText-F.Group None at)
of_group (Some t) at = ap names_in_type (sym (ty.rolls-Group (Some t) at)) ∙ fold-roll-TypeText (List ℕ) names_in_type_step (TypeText-F.Group (Some t) at)

pub of_elem : (n : ℕ) (o : Option TypeText) (at : Span) → names_in_type (ty.Elem n o at) ≡ n ∷ of_output o
of_elem n None at = ap names_in_type (sym (ty.rolls-Elem n None at)) ∙ fold-roll-TypeText (List ℕ) names_in_type_step (TypeText-F.Elem n None at)
of_elem n (Some t) at = ap names_in_type (sym (ty.rolls-Elem n (Some t) at)) ∙ fold-roll-TypeText (List ℕ) names_in_type_step (TypeText-F.Elem n (Some t) at)

pub of_any : (o : Option TypeText) (at : Span) → names_in_type (ty.AnyElem o at) ≡ of_output o
of_any None at = ap names_in_type (sym (ty.rolls-AnyElem None at)) ∙ fold-roll-TypeText (List ℕ) names_in_type_step (TypeText-F.AnyElem None at)
of_any (Some t) at = ap names_in_type (sym (ty.rolls-AnyElem (Some t) at)) ∙ fold-roll-TypeText (List ℕ) names_in_type_step (TypeText-F.AnyElem (Some t) at)

pub of_kind : (k : AtomKind) (at : Span) → names_in_type (ty.Kind k at) ≡ []
of_kind k at = ap names_in_type (sym (ty.rolls-Kind k at)) ∙ fold-roll-TypeText (List ℕ) names_in_type_step (TypeText-F.Kind k at)

pub of_named : (n : ℕ) (at : Span) → names_in_type (ty.Named n at) ≡ n ∷ []
of_named n at = ap names_in_type (sym (ty.rolls-Named n at)) ∙ fold-roll-TypeText (List ℕ) names_in_type_step (TypeText-F.Named n at)

pub of_alts : (t : TypeText) (ts : List TypeText) (to : ℕ) → names_in_type (alt_of t ts to) ≡ names_in_type t ++ flat_map names_in_type ts
of_alts t [] to = sym (append-nil (names_in_type t))
of_alts t (u ∷ ts) to = of_alt (t ∷ u ∷ ts) _

pub of_seqs : (t : TypeText) (ts : List TypeText) (to : ℕ) → names_in_type (seq_of t ts to) ≡ names_in_type t ++ flat_map names_in_type ts
of_seqs t [] to = sym (append-nil (names_in_type t))
of_seqs t (u ∷ ts) to = of_seq (t ∷ u ∷ ts) _

pub of_marks : (t : TypeText) (ms : List Mark) (to : ℕ) → names_in_type (marked_of t ms to) ≡ names_in_type t
of_marks t [] to = refl
of_marks t (m ∷ ms) to = of_marked t (m ∷ ms) _

-- ---- queries
of_list : (qs : List Expr) (at : Span) → names_in_expr (ex.List qs at) ≡ flat_map names_in_expr qs
of_list qs at = ap names_in_expr (sym (ex.rolls-List qs at)) ∙ fold-roll-Expr (List ℕ) names_in_expr_step (Expr-F.List qs at) ∙ several names_in_expr qs

of_stepped : (q : Expr) (ss : List QueryStep) (at : Span) → names_in_expr (ex.Stepped q ss at) ≡ names_in_expr q ++ flat_map names_in_query_step ss
of_stepped q ss at = ap names_in_expr (sym (ex.rolls-Stepped q ss at)) ∙ fold-roll-Expr (List ℕ) names_in_expr_step (Expr-F.Stepped q ss at)

pub of_for : (x : ℕ) (q r : Expr) (at : Span) → names_in_expr (ex.For x q r at) ≡ x ∷ names_in_expr q ++ names_in_expr r
of_for x q r at = ap names_in_expr (sym (ex.rolls-For x q r at)) ∙ fold-roll-Expr (List ℕ) names_in_expr_step (Expr-F.For x q r at)

pub of_let : (x : ℕ) (q r : Expr) (at : Span) → names_in_expr (ex.Let x q r at) ≡ x ∷ names_in_expr q ++ names_in_expr r
of_let x q r at = ap names_in_expr (sym (ex.rolls-Let x q r at)) ∙ fold-roll-Expr (List ℕ) names_in_expr_step (Expr-F.Let x q r at)

pub of_if : (c q r : Expr) (at : Span) → names_in_expr (ex.If c q r at) ≡ names_in_expr c ++ (names_in_expr q ++ names_in_expr r)
of_if c q r at = ap names_in_expr (sym (ex.rolls-If c q r at)) ∙ fold-roll-Expr (List ℕ) names_in_expr_step (Expr-F.If c q r at)

pub of_same : (q r : Expr) (at : Span) → names_in_expr (ex.Same q r at) ≡ names_in_expr q ++ names_in_expr r
of_same q r at = ap names_in_expr (sym (ex.rolls-Same q r at)) ∙ fold-roll-Expr (List ℕ) names_in_expr_step (Expr-F.Same q r at)

pub of_less : (q r : Expr) (at : Span) → names_in_expr (ex.Less q r at) ≡ names_in_expr q ++ names_in_expr r
of_less q r at = ap names_in_expr (sym (ex.rolls-Less q r at)) ∙ fold-roll-Expr (List ℕ) names_in_expr_step (Expr-F.Less q r at)

pub of_paren : (o : Option Expr) (at : Span) → names_in_expr (ex.Group o at) ≡ of_content o
of_paren None at = ap names_in_expr (sym (ex.rolls-Group None at)) ∙ fold-roll-Expr (List ℕ) names_in_expr_step (Expr-F.Group None at)
of_paren (Some q) at = ap names_in_expr (sym (ex.rolls-Group (Some q) at)) ∙ fold-roll-Expr (List ℕ) names_in_expr_step (Expr-F.Group (Some q) at)

pub of_literal : (x : Atom) (at : Span) → names_in_expr (ex.Lit x at) ≡ []
of_literal x at = ap names_in_expr (sym (ex.rolls-Lit x at)) ∙ fold-roll-Expr (List ℕ) names_in_expr_step (Expr-F.Lit x at)

pub of_var : (x : ℕ) (at : Span) → names_in_expr (ex.Var x at) ≡ x ∷ []
of_var x at = ap names_in_expr (sym (ex.rolls-Var x at)) ∙ fold-roll-Expr (List ℕ) names_in_expr_step (Expr-F.Var x at)

pub of_element : (n : ℕ) (o : Option Expr) (at : Span) → names_in_expr (ex.Elem n o at) ≡ n ∷ of_content o
of_element n None at = ap names_in_expr (sym (ex.rolls-Elem n None at)) ∙ fold-roll-Expr (List ℕ) names_in_expr_step (Expr-F.Elem n None at)
of_element n (Some q) at = ap names_in_expr (sym (ex.rolls-Elem n (Some q) at)) ∙ fold-roll-Expr (List ℕ) names_in_expr_step (Expr-F.Elem n (Some q) at)

pub of_items : (q : Expr) (qs : List Expr) (to : ℕ) → names_in_expr (list_of q qs to) ≡ names_in_expr q ++ flat_map names_in_expr qs
of_items q [] to = sym (append-nil (names_in_expr q))
of_items q (r ∷ qs) to = of_list (q ∷ r ∷ qs) _

pub of_steps : (q : Expr) (ss : List QueryStep) (to : ℕ) → names_in_expr (stepped_of q ss to) ≡ names_in_expr q ++ flat_map names_in_query_step ss
of_steps q [] to = sym (append-nil (names_in_expr q))
of_steps q (s ∷ ss) to = of_stepped q (s ∷ ss) _

-- ---- statements
pub of_update : (p : Path) (s : Stmt) (at : Span) → names_in_stmt (st.Update p s at) ≡ names_in_path p ++ names_in_stmt s
of_update p s at = ap names_in_stmt (sym (st.rolls-Update p s at)) ∙ fold-roll-Stmt (List ℕ) names_in_stmt_step (Stmt-F.Update p s at)

pub of_if_stmt : (q : Expr) (s r : Stmt) (at : Span) → names_in_stmt (st.If q s r at) ≡ names_in_expr q ++ (names_in_stmt s ++ names_in_stmt r)
of_if_stmt q s r at = ap names_in_stmt (sym (st.rolls-If q s r at)) ∙ fold-roll-Stmt (List ℕ) names_in_stmt_step (Stmt-F.If q s r at)

pub of_let_stmt : (x : ℕ) (q : Expr) (s : Stmt) (at : Span) → names_in_stmt (st.Let x q s at) ≡ x ∷ names_in_expr q ++ names_in_stmt s
of_let_stmt x q s at = ap names_in_stmt (sym (st.rolls-Let x q s at)) ∙ fold-roll-Stmt (List ℕ) names_in_stmt_step (Stmt-F.Let x q s at)

pub of_guarded : (s : Stmt) (q : Expr) (at : Span) → names_in_stmt (st.Guarded s q at) ≡ names_in_stmt s ++ names_in_expr q
of_guarded s q at = ap names_in_stmt (sym (st.rolls-Guarded s q at)) ∙ fold-roll-Stmt (List ℕ) names_in_stmt_step (Stmt-F.Guarded s q at)

pub of_skip : (at : Span) → names_in_stmt (st.Skip at) ≡ []
of_skip at = ap names_in_stmt (sym (st.rolls-Skip at)) ∙ fold-roll-Stmt (List ℕ) names_in_stmt_step (Stmt-F.Skip at)

pub of_insert : (q : Expr) (at : Span) → names_in_stmt (st.Insert q at) ≡ names_in_expr q
of_insert q at = ap names_in_stmt (sym (st.rolls-Insert q at)) ∙ fold-roll-Stmt (List ℕ) names_in_stmt_step (Stmt-F.Insert q at)

pub of_insert_before : (p : Path) (q : Expr) (at : Span) → names_in_stmt (st.InsertBefore p q at) ≡ names_in_path p ++ names_in_expr q
of_insert_before p q at = ap names_in_stmt (sym (st.rolls-InsertBefore p q at)) ∙ fold-roll-Stmt (List ℕ) names_in_stmt_step (Stmt-F.InsertBefore p q at)

pub of_insert_after : (p : Path) (q : Expr) (at : Span) → names_in_stmt (st.InsertAfter p q at) ≡ names_in_path p ++ names_in_expr q
of_insert_after p q at = ap names_in_stmt (sym (st.rolls-InsertAfter p q at)) ∙ fold-roll-Stmt (List ℕ) names_in_stmt_step (Stmt-F.InsertAfter p q at)

pub of_insert_first : (p : Path) (q : Expr) (at : Span) → names_in_stmt (st.InsertFirst p q at) ≡ names_in_path p ++ names_in_expr q
of_insert_first p q at = ap names_in_stmt (sym (st.rolls-InsertFirst p q at)) ∙ fold-roll-Stmt (List ℕ) names_in_stmt_step (Stmt-F.InsertFirst p q at)

pub of_insert_last : (p : Path) (q : Expr) (at : Span) → names_in_stmt (st.InsertLast p q at) ≡ names_in_path p ++ names_in_expr q
of_insert_last p q at = ap names_in_stmt (sym (st.rolls-InsertLast p q at)) ∙ fold-roll-Stmt (List ℕ) names_in_stmt_step (Stmt-F.InsertLast p q at)

pub of_delete : (p : Path) (at : Span) → names_in_stmt (st.Delete p at) ≡ names_in_path p
of_delete p at = ap names_in_stmt (sym (st.rolls-Delete p at)) ∙ fold-roll-Stmt (List ℕ) names_in_stmt_step (Stmt-F.Delete p at)

pub of_delete_from : (p : Path) (at : Span) → names_in_stmt (st.DeleteFrom p at) ≡ names_in_path p
of_delete_from p at = ap names_in_stmt (sym (st.rolls-DeleteFrom p at)) ∙ fold-roll-Stmt (List ℕ) names_in_stmt_step (Stmt-F.DeleteFrom p at)

pub of_rename : (p : Path) (n : ℕ) (at : Span) → names_in_stmt (st.Rename p n at) ≡ names_in_path p ++ n ∷ []
of_rename p n at = ap names_in_stmt (sym (st.rolls-Rename p n at)) ∙ fold-roll-Stmt (List ℕ) names_in_stmt_step (Stmt-F.Rename p n at)

pub of_replace : (p : Path) (q : Expr) (at : Span) → names_in_stmt (st.Replace p q at) ≡ names_in_path p ++ names_in_expr q
of_replace p q at = ap names_in_stmt (sym (st.rolls-Replace p q at)) ∙ fold-roll-Stmt (List ℕ) names_in_stmt_step (Stmt-F.Replace p q at)

pub of_replace_in : (p : Path) (q : Expr) (at : Span) → names_in_stmt (st.ReplaceIn p q at) ≡ names_in_path p ++ names_in_expr q
of_replace_in p q at = ap names_in_stmt (sym (st.rolls-ReplaceIn p q at)) ∙ fold-roll-Stmt (List ℕ) names_in_stmt_step (Stmt-F.ReplaceIn p q at)

pub of_call : (n : ℕ) (qs : List Expr) (at : Span) → names_in_stmt (st.Call n qs at) ≡ n ∷ flat_map names_in_expr qs
of_call n qs at = ap names_in_stmt (sym (st.rolls-Call n qs at)) ∙ fold-roll-Stmt (List ℕ) names_in_stmt_step (Stmt-F.Call n qs at)

pub of_block : (ss : List Stmt) (at : Span) → names_in_stmt (st.Block ss at) ≡ flat_map names_in_stmt ss
of_block ss at = ap names_in_stmt (sym (st.rolls-Block ss at)) ∙ fold-roll-Stmt (List ℕ) names_in_stmt_step (Stmt-F.Block ss at) ∙ several names_in_stmt ss
