-- The names that stand in a script: its labels, its names of types and of procedures, and its
-- variables, each in the order of the text.
use Rattle.std.specs.Prelude.{ℕ, List, [], ◌∷◌, ◌++◌, Option, Some, None, flat_map, All, Contains}
use Rattle.std.specs.Option.{option_map}
use Rattle.flux_grammar.specs.declared.lexeme.Lexeme.{Lexeme}
use Rattle.flux_grammar.specs.declared.lexeme.Lexeme.TheVariants.{Reserved, Sign, Word, Soft, Quoted, Var, Literal}
use Rattle.flux_grammar.specs.declared.lexeme.Piece.{Piece}
use Rattle.flux_grammar.specs.declared.tree.Expr.{Expr}
use Rattle.flux_grammar.specs.declared.tree.Expr.TheOpen.{Expr-F}
use Rattle.flux_grammar.specs.declared.tree.Expr.TheFolds.{fold-Expr}
use Rattle.flux_grammar.specs.declared.tree.ParamDef.{ParamDef}
use Rattle.flux_grammar.specs.declared.tree.Path.{Path}
use Rattle.flux_grammar.specs.declared.tree.ProcDef.{ProcDef}
use Rattle.flux_grammar.specs.declared.tree.QueryStep.{QueryStep}
use Rattle.flux_grammar.specs.declared.tree.QueryStep.TheVariants.{Down, Child, Filter}
use Rattle.flux_grammar.specs.declared.tree.Script.{Script}
use Rattle.flux_grammar.specs.declared.tree.Step.{Step}
use Rattle.flux_grammar.specs.declared.tree.Stmt.{Stmt}
use Rattle.flux_grammar.specs.declared.tree.Stmt.TheOpen.{Stmt-F}
use Rattle.flux_grammar.specs.declared.tree.Stmt.TheFolds.{fold-Stmt}
use Rattle.flux_grammar.specs.declared.tree.TestText.{TestText}
use Rattle.flux_grammar.specs.declared.tree.TestText.TheVariants.{Label, AnyElement, OfText, OfBool, OfInt}
use Rattle.flux_grammar.specs.declared.tree.TypeDef.{TypeDef}
use Rattle.flux_grammar.specs.declared.tree.TypeText.{TypeText}
use Rattle.flux_grammar.specs.declared.tree.TypeText.TheOpen.{TypeText-F}
use Rattle.flux_grammar.specs.declared.tree.TypeText.TheFolds.{fold-TypeText}
use Rattle.flux_grammar.specs.Grammar.{Part, Value}
use Rattle.flux_grammar.specs.Readings.{IsRead}

-- the name of a piece, if it is one
abbrev pub names_in_lexeme : Lexeme → List ℕ
names_in_lexeme (Reserved k) = []
names_in_lexeme (Sign s) = []
names_in_lexeme (Word n) = n ∷ []
names_in_lexeme (Soft s n) = n ∷ []
names_in_lexeme (Quoted n) = n ∷ []
names_in_lexeme (Var n) = n ∷ []
names_in_lexeme (Literal x) = []

abbrev pub names_in_piece : Piece → List ℕ
names_in_piece x = names_in_lexeme x.lexeme

-- those of a part that may be left out, and of several parts
abbrev pub of_optional : Option (List ℕ) → List ℕ
of_optional None = []
of_optional (Some ns) = ns

abbrev pub of_several : List (List ℕ) → List ℕ
of_several parts = flat_map (λ ns. ns) parts

-- of a type, by a line for each form
abbrev pub names_in_type_step : TypeText-F (List ℕ) → List ℕ
names_in_type_step (TypeText-F.Alt ts at) = of_several ts
names_in_type_step (TypeText-F.Seq ts at) = of_several ts
names_in_type_step (TypeText-F.Marked t ms at) = t
names_in_type_step (TypeText-F.Group t at) = of_optional t
names_in_type_step (TypeText-F.Elem n t at) = n ∷ of_optional t
names_in_type_step (TypeText-F.AnyElem t at) = of_optional t
names_in_type_step (TypeText-F.Kind k at) = []
names_in_type_step (TypeText-F.Named n at) = n ∷ []

abbrev pub names_in_type : TypeText → List ℕ
names_in_type = fold-TypeText (List ℕ) names_in_type_step

-- of a test, and of a step of a query
abbrev pub names_in_test : TestText → List ℕ
names_in_test (Label n) = n ∷ []
names_in_test AnyElement = []
names_in_test OfText = []
names_in_test OfBool = []
names_in_test OfInt = []

abbrev pub names_in_query_step : QueryStep → List ℕ
names_in_query_step (Down t at) = names_in_test t
names_in_query_step (Child at) = []
names_in_query_step (Filter t at) = names_in_test t

-- of a query
abbrev pub names_in_expr_step : Expr-F (List ℕ) → List ℕ
names_in_expr_step (Expr-F.List es at) = of_several es
names_in_expr_step (Expr-F.For x e f at) = x ∷ e ++ f
names_in_expr_step (Expr-F.Let x e f at) = x ∷ e ++ f
names_in_expr_step (Expr-F.If c e f at) = c ++ (e ++ f)
names_in_expr_step (Expr-F.Same e f at) = e ++ f
names_in_expr_step (Expr-F.Less e f at) = e ++ f
names_in_expr_step (Expr-F.Stepped e ss at) = e ++ flat_map names_in_query_step ss
names_in_expr_step (Expr-F.Group e at) = of_optional e
names_in_expr_step (Expr-F.Lit x at) = []
names_in_expr_step (Expr-F.Var x at) = x ∷ []
names_in_expr_step (Expr-F.Elem n e at) = n ∷ of_optional e

abbrev pub names_in_expr : Expr → List ℕ
names_in_expr = fold-Expr (List ℕ) names_in_expr_step

-- of a step of a path, and of a path
abbrev pub of_variable : Option ℕ → List ℕ
of_variable None = []
of_variable (Some x) = x ∷ []

abbrev pub of_spot : Option TestText → List ℕ
of_spot t = of_optional (option_map names_in_test t)

abbrev pub of_content : Option Expr → List ℕ
of_content e = of_optional (option_map names_in_expr e)

abbrev pub names_in_step : Step → List ℕ
names_in_step s = of_variable s.var ++ (of_spot s.test ++ of_content s.filter)

abbrev pub names_in_path : Path → List ℕ
names_in_path p = flat_map names_in_step p.steps

-- of a statement
abbrev pub names_in_stmt_step : Stmt-F (List ℕ) → List ℕ
names_in_stmt_step (Stmt-F.Update p s at) = names_in_path p ++ s
names_in_stmt_step (Stmt-F.If e s t at) = names_in_expr e ++ (s ++ t)
names_in_stmt_step (Stmt-F.Let x e s at) = x ∷ names_in_expr e ++ s
names_in_stmt_step (Stmt-F.Guarded s e at) = s ++ names_in_expr e
names_in_stmt_step (Stmt-F.Skip at) = []
names_in_stmt_step (Stmt-F.Insert e at) = names_in_expr e
names_in_stmt_step (Stmt-F.InsertBefore p e at) = names_in_path p ++ names_in_expr e
names_in_stmt_step (Stmt-F.InsertAfter p e at) = names_in_path p ++ names_in_expr e
names_in_stmt_step (Stmt-F.InsertFirst p e at) = names_in_path p ++ names_in_expr e
names_in_stmt_step (Stmt-F.InsertLast p e at) = names_in_path p ++ names_in_expr e
names_in_stmt_step (Stmt-F.Delete p at) = names_in_path p
names_in_stmt_step (Stmt-F.DeleteFrom p at) = names_in_path p
names_in_stmt_step (Stmt-F.Rename p n at) = names_in_path p ++ n ∷ []
names_in_stmt_step (Stmt-F.Replace p e at) = names_in_path p ++ names_in_expr e
names_in_stmt_step (Stmt-F.ReplaceIn p e at) = names_in_path p ++ names_in_expr e
names_in_stmt_step (Stmt-F.Call n es at) = n ∷ flat_map names_in_expr es
names_in_stmt_step (Stmt-F.Block ss at) = of_several ss

abbrev pub names_in_stmt : Stmt → List ℕ
names_in_stmt = fold-Stmt (List ℕ) names_in_stmt_step

-- of a script and its definitions
abbrev pub names_in_typedef : TypeDef → List ℕ
names_in_typedef d = d.name ∷ names_in_type d.body

abbrev pub names_in_param : ParamDef → List ℕ
names_in_param p = p.var ∷ names_in_type p.ty

abbrev pub names_in_proc : ProcDef → List ℕ
names_in_proc p =
    p.name ∷ (flat_map names_in_param p.params
    ++ (names_in_type p.focus ++ (names_in_type p.result ++ flat_map names_in_stmt p.body)))

abbrev pub of_output : Option TypeText → List ℕ
of_output t = of_optional (option_map names_in_type t)

abbrev pub names_in_script : Script → List ℕ
names_in_script s =
    flat_map names_in_typedef s.types
    ++ (flat_map names_in_proc s.procs
    ++ (names_in_type s.input ++ (of_output s.output ++ flat_map names_in_stmt s.body)))

-- P holds of each of them
module _ (P : ℕ → Type 0) where
  abbrev pub PieceNames : Piece → Type 0
  PieceNames x = All P (names_in_piece x)

  abbrev pub TypeTextNames : TypeText → Type 0
  TypeTextNames t = All P (names_in_type t)

  abbrev pub TestNames : TestText → Type 0
  TestNames t = All P (names_in_test t)

  abbrev pub ExprNames : Expr → Type 0
  ExprNames e = All P (names_in_expr e)

  abbrev pub StepNames : Step → Type 0
  StepNames s = All P (names_in_step s)

  abbrev pub PathNames : Path → Type 0
  PathNames p = All P (names_in_path p)

  abbrev pub StmtNames : Stmt → Type 0
  StmtNames s = All P (names_in_stmt s)

  abbrev pub ScriptNames : Script → Type 0
  ScriptNames s = All P (names_in_script s)

-- each name of the tree that pieces read as is one of theirs: what holds of each name of the pieces
-- holds of each of the tree
abbrev pub NamesAreOfPieces : (p : Part) → ((ℕ → Type 0) → Value p → Type 0) → Type 0
NamesAreOfPieces p Names =
    (ps : List Piece) (v : Value p) →
    IsRead p ps v → Names (Contains (flat_map names_in_piece ps)) v
