-- Scripts: what they read as, which of them delete one path, and what is wrong with the others.
use Rattle.std.specs.Prelude.{◌≡◌, ◌<◌, ◌≤◌, ℕ, List, [], ◌∷◌, length, map, Option, Some, None}
use Rattle.flux_atom.specs.Names.{name_text}
use Rattle.flux_calculus.specs.declared.ask.Span.{Span}
use Rattle.flux_grammar.specs.declared.token.Token.{Token}
use Rattle.flux_grammar.specs.declared.tree.Expr.{Expr}
use Rattle.flux_grammar.specs.declared.tree.Path.{Path}
use Rattle.flux_grammar.specs.declared.tree.Script.{Script}
use Rattle.flux_grammar.specs.declared.tree.Step.{Step}
use Rattle.flux_grammar.specs.declared.tree.Stmt.TheVariants.{Delete}
use Rattle.flux_grammar.specs.declared.tree.TestText.{TestText}
use Rattle.flux_grammar.specs.declared.tree.TestText.TheVariants.{Label}
use Rattle.flux_grammar.specs.Grammar.{script}
use Rattle.flux_grammar.specs.Tokens.{AreTokens}
use Rattle.flux_grammar.specs.NormalFaults.{HasNoFault}
use Rattle.flux_grammar.specs.NormalForm.{IsNormalForm}
use Rattle.flux_calculus.specs.Core.{Normal}
use Rattle.flux_normal.specs.declared.fault.NormFault.{NormFault}
use Rattle.flux_normal.specs.Faults.{IsNormFault}
use Rattle.flux_lex.specs.declared.read.LexFault.TheVariants.{Bad, Memory as NoRoom}
use Rattle.flux_lex.specs.Fault.{IsLexFault}
use Rattle.flux_syntax.specs.declared.trees.SynFault.TheVariants.{Syntax, Memory}
use Rattle.flux_syntax.specs.Learnt.{learnt}
use Rattle.flux_syntax.specs.Trees.{IsTree, IsSynFault}
use Rattle.flux_report.specs.declared.line.ScriptFault.{ScriptFault}
use Rattle.flux_report.specs.declared.line.ScriptFault.TheVariants.{TooLong, Lex, Syn, Norm}
use Rattle.flux_report.specs.Lines.{HasLine}

-- the most bytes of a script
abbrev pub script_limit : ℕ
script_limit = 1048576

-- the bytes are tokens that read as this tree, over the table of the names that they write
pub record IsScriptOf (bytes : List ℕ) (tree : Script) (texts : List (List ℕ)) : Type 0 where
  pub tokens : List Token
  pub are : AreTokens bytes tokens
  pub texts_are : texts ≡ learnt bytes tokens []
  pub reads : IsTree script texts bytes tokens tree

-- the bytes are tokens without a reading, of which the first that doesn't fit begins at the place
pub record HasNoReading (bytes : List ℕ) (place : ℕ) : Type 0 where
  pub tokens : List Token
  pub are : AreTokens bytes tokens
  pub misfit : IsSynFault script (learnt bytes tokens []) bytes tokens (Syntax place)

-- the bytes are a script whose names, types, calls or nesting have this fault as the first
pub record HasNormFault (bytes : List ℕ) (fault : NormFault) : Type 0 where
  pub tree : Script
  pub texts : List (List ℕ)
  pub reads : IsScriptOf bytes tree texts
  pub faulty : IsNormFault tree fault

-- the bytes are over the limit; they are within it, and no tokens, or tokens without a reading, or
-- a script that has no normal form. Want of memory is no fault of a script
abbrev pub IsScriptFault : List ℕ → ScriptFault → Type 0
IsScriptFault bytes TooLong = script_limit < length bytes
IsScriptFault bytes (Lex (Bad place)) =
    (length bytes ≤ script_limit) × IsLexFault bytes (Bad place)
IsScriptFault bytes (Lex (NoRoom error)) = ⊥
IsScriptFault bytes (Syn (Syntax place)) = (length bytes ≤ script_limit) × HasNoReading bytes place
IsScriptFault bytes (Syn (Memory error)) = ⊥
IsScriptFault bytes (Norm fault) =
    HasLine fault × (length bytes ≤ script_limit) × HasNormFault bytes fault

-- the bytes are a script without a fault, of this tree and this normal form, over the table of its
-- names
pub record IsNormalScript (bytes : List ℕ) (tree : Script) (texts : List (List ℕ))
    (normal : Normal) : Type 0 where
  pub within : length bytes ≤ script_limit
  pub reads : IsScriptOf bytes tree texts
  pub no_fault : HasNoFault tree
  pub form : IsNormalForm tree normal

-- the label that is all of a step: it has no variable and no filter
abbrev pub lone : Option ℕ → Option TestText → Option Expr → Option ℕ
lone None (Some (Label n)) None = Some n
lone _ _ _ = None

abbrev pub lone_label : Step → Option ℕ
lone_label step = lone step.var step.test step.filter

-- the body is one `DELETE` of a path whose steps are these labels, and nothing else
pub record IsDeletion (tree : Script) (path : List ℕ) : Type 0 where
  pub deleted : Path
  pub at : Span
  pub body_is : tree.body ≡ Delete deleted at ∷ []
  pub labels_are : map lone_label deleted.steps ≡ map Some path

-- the script deletes no path
abbrev pub DeletesNone : Script → Type 0
DeletesNone tree = (path : List ℕ) → ¬ (IsDeletion tree path)

-- the bytes are a script without a fault that deletes the elements on the path of labels with
-- these texts
pub record DeletesPath (bytes : List ℕ) (steps : List (List ℕ)) : Type 0 where
  pub tree : Script
  pub texts : List (List ℕ)
  pub path : List ℕ
  pub reads : IsScriptOf bytes tree texts
  pub no_fault : HasNoFault tree
  pub deletion : IsDeletion tree path
  pub steps_are : steps ≡ map (name_text texts) path
