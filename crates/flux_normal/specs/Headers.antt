-- The types that a script writes beside its definitions, once they are made.
use Rattle.std.specs.Prelude.{◌≡◌, ℕ, List, Option, Some, None}
use Rattle.std.specs.List.{AllZip}
use Rattle.flux_calculus.specs.declared.ask.Var.TheVariants.{Named}
use Rattle.flux_core.specs.declared.declared.Declared.{Declared}
use Rattle.flux_core.specs.declared.param.Param.{Param}
use Rattle.flux_grammar.specs.declared.tree.ParamDef.{ParamDef}
use Rattle.flux_grammar.specs.declared.tree.ProcDef.{ProcDef}
use Rattle.flux_grammar.specs.declared.tree.TypeText.{TypeText}
use Rattle.flux_grammar.specs.Spans.{type_span}
use Rattle.flux_grammar.specs.TypeOf.{type_in}
use Rattle.flux_types.specs.Read.{ty_of}
use Rattle.flux_normal.specs.declared.headers.Header.{Header}
use Rattle.flux_normal.specs.Types.{IsMade}

module _ (names : List ℕ) where
  pub record IsParamMade (p : ParamDef) (q : Param) : Type 0 where
    pub var : q.var ≡ Named p.var
    pub ty : IsMade names (type_in names p.ty) (ty_of q.ty)

  -- the procedure but for its body
  pub record IsHeaderOf (p : ProcDef) (h : Header) : Type 0 where
    pub name : h.name ≡ p.name
    pub params : AllZip IsParamMade p.params h.params
    pub focus : IsMade names (type_in names p.focus) (ty_of h.focus)
    pub result : IsMade names (type_in names p.result) (ty_of h.result)
    pub result_at : h.result_at ≡ (type_span p.result).from

  abbrev pub IsDeclaredMade : Option TypeText → Option Declared → Type 0
  IsDeclaredMade None None = Unit {0}
  IsDeclaredMade None (Some d) = ⊥
  IsDeclaredMade (Some t) None = ⊥
  IsDeclaredMade (Some t) (Some d) =
      IsMade names (type_in names t) (ty_of d.ty) × (d.at ≡ (type_span t).from)
