-- Procedures with their bodies.
use Rattle.std.specs.Prelude.{ℕ, List, All, length}
use Rattle.flux_calculus.specs.Core.{Proc}
use Rattle.flux_grammar.specs.declared.tree.ProcDef.{ProcDef}
use Rattle.flux_grammar.specs.NormalForm.{IsProcOf}
use Rattle.flux_schema.specs.Ty.{Ty, NamesBelow, IsWithinLimits}
use Rattle.flux_normal.specs.Heads.{Head, AllFit}

-- a type within the limits, in which each index is one of these names
pub record IsNamed (names : List ℕ) (t : Ty) : Type 0 where
  pub known : NamesBelow (length names) t
  pub limits : IsWithinLimits t

-- the procedure is the written one but for its body, whose calls fit
pub record IsWritten (names : List ℕ) (heads : List Head) (p : ProcDef) (q : Proc) : Type 0 where
  pub written : IsProcOf names p q
  pub params : All (λ x. IsNamed names x.1) q.params
  pub focus : IsNamed names q.focus
  pub result : IsNamed names q.result
  pub calls : AllFit heads q.body
