-- The normal form of a script.
use Rattle.std.specs.Prelude.{◌≡◌, ℕ, List, [], ◌∷◌, ◌++◌, Option, Some, None, map}
use Rattle.std.specs.List.{AllZip}
use Rattle.flux_calculus.specs.declared.ask.Var.{Var}
use Rattle.flux_calculus.specs.declared.ask.Var.TheVariants.{Named}
use Rattle.flux_calculus.specs.Core.{Core, Proc, Declared, Normal}
use Rattle.flux_grammar.specs.declared.tree.ParamDef.{ParamDef}
use Rattle.flux_grammar.specs.declared.tree.ProcDef.{ProcDef}
use Rattle.flux_grammar.specs.declared.tree.Script.{Script}
use Rattle.flux_grammar.specs.declared.tree.TypeDef.{TypeDef}
use Rattle.flux_grammar.specs.declared.tree.TypeText.{TypeText}
use Rattle.flux_grammar.specs.NormalQueries.{Numbered, of_all}
use Rattle.flux_grammar.specs.NormalStatements.{stmts_form}
use Rattle.flux_grammar.specs.Spans.{type_span}
use Rattle.flux_grammar.specs.TypeOf.{type_in}
use Rattle.flux_schema.specs.Definitions.{Definition}
use Rattle.flux_schema.specs.Ty.{Ty}

-- the names of types, of procedures, as they are defined
abbrev pub type_names : Script → List ℕ
type_names s = map (λ d. d.name) s.types

abbrev pub proc_names : Script → List ℕ
proc_names s = map (λ p. p.name) s.procs

-- the statements of each procedure and the main ones, in the order of the text
abbrev pub bodies : Script → Numbered (List Core)
bodies s =
    of_all (map (stmts_form (proc_names s)) (map (λ p. p.body) s.procs ++ s.body ∷ []))

-- the definition, the parameter, the procedure but for its body, the declared type of results that
-- is written so, where types have these names
pub record IsDefinitionOf (names : List ℕ) (d : TypeDef) (e : Definition) : Type 0 where
  pub name : e.name ≡ d.name
  pub body : type_in names d.body ≡ Some e.body

pub record IsParamOf (names : List ℕ) (p : ParamDef) (q : Var × Ty) : Type 0 where
  pub var : q.0 ≡ Named p.var
  pub ty : type_in names p.ty ≡ Some q.1

pub record IsProcOf (names : List ℕ) (p : ProcDef) (q : Proc) : Type 0 where
  pub name : q.name ≡ p.name
  pub params : AllZip (IsParamOf names) p.params q.params
  pub focus : type_in names p.focus ≡ Some q.focus
  pub result : type_in names p.result ≡ Some q.result
  pub result_at : q.result_at ≡ (type_span p.result).from

abbrev pub IsDeclaredOf : List ℕ → Option TypeText → Option Declared → Type 0
IsDeclaredOf names None None = Unit {0}
IsDeclaredOf names None (Some d) = ⊥
IsDeclaredOf names (Some t) None = ⊥
IsDeclaredOf names (Some t) (Some d) =
    (type_in names t ≡ Some d.ty) × (d.at ≡ (type_span t).from)

-- the normal form of a script; variables are numbered from 1
pub record IsNormalForm (s : Script) (n : Normal) : Type 0 where
  pub defs : AllZip (IsDefinitionOf (type_names s)) s.types n.defs
  pub procs : AllZip (IsProcOf (type_names s)) s.procs n.procs
  pub input : type_in (type_names s) s.input ≡ Some n.input
  pub declared : IsDeclaredOf (type_names s) s.output n.declared
  pub statements : (bodies s 0).0 ≡ map (λ p. p.body) n.procs ++ n.main ∷ []
