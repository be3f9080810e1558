-- A script has one normal form at most.
use Rattle.std.proofs.Common.{◌≡◌, ℕ, List, [], ◌∷◌, ◌++◌, Option, Some, None, map, refl, sym, ap, ap₂, ◌∙◌}
use Rattle.std.specs.List.{AllZip}
use Rattle.std.proofs.lemmas.Option.{same_Some}
use Rattle.flux_calculus.specs.declared.ask.Var.{Var}
use Rattle.flux_calculus.specs.Core.{Core, Proc, Declared, Normal}
use Rattle.flux_grammar.specs.declared.tree.ParamDef.{ParamDef}
use Rattle.flux_grammar.specs.declared.tree.ProcDef.{ProcDef}
use Rattle.flux_grammar.specs.declared.tree.TypeDef.{TypeDef}
use Rattle.flux_grammar.specs.declared.tree.TypeText.{TypeText}
use Rattle.flux_grammar.specs.NormalForm.{type_names, IsDefinitionOf, IsParamOf, IsProcOf, IsDeclaredOf}
use Rattle.flux_grammar.specs.OneNormalForm.{NormalFormIsUnique}
use Rattle.flux_schema.specs.Definitions.{Definition, Definitions}
use Rattle.flux_schema.specs.Ty.{Ty}

same_definition : (e f : Definition) → e.name ≡ f.name → e.body ≡ f.body → e ≡ f
same_definition e f name body = λ i. record { name = name i; body = body i }

same_param : (q r : Var × Ty) → q.0 ≡ r.0 → q.1 ≡ r.1 → q ≡ r
same_param q r var type = λ i. (var i, type i)

same_proc : (q r : Proc) → q.name ≡ r.name → q.params ≡ r.params → q.focus ≡ r.focus → q.result ≡ r.result → q.result_at ≡ r.result_at → q.body ≡ r.body → q ≡ r
same_proc q r name params focus result at body =
    λ i. record { name = name i; params = params i; focus = focus i; result = result i; result_at = at i; body = body i }

same_declared : (d e : Declared) → d.ty ≡ e.ty → d.at ≡ e.at → d ≡ e
same_declared d e type at = λ i. record { ty = type i; at = at i }

-- two types that one written type stands for
same_type : {o : Option Ty} (t u : Ty) → o ≡ Some t → o ≡ Some u → t ≡ u
same_type t u is other = same_Some t u (sym is ∙ other)

list_head : {x y : Core} {xs ys : List Core} → x ∷ xs ≡ y ∷ ys → x ≡ y
list_head e = cc

list_tail : {x y : Core} {xs ys : List Core} → x ∷ xs ≡ y ∷ ys → xs ≡ ys
list_tail e = cc

module _ (names : List ℕ) where
  of_definitions : (ds : List TypeDef) (es fs : Definitions) → AllZip (IsDefinitionOf names) ds es → AllZip (IsDefinitionOf names) ds fs → es ≡ fs
  of_definitions [] [] [] a b = refl
  of_definitions [] [] (f ∷ fs) a b = absurd b
  of_definitions [] (e ∷ es) fs a b = absurd a
  of_definitions (d ∷ ds) [] fs a b = absurd a
  of_definitions (d ∷ ds) (e ∷ es) [] a b = absurd b
  of_definitions (d ∷ ds) (e ∷ es) (f ∷ fs) a b =
      ap₂ ◌∷◌ (same_definition e f (a.0.name ∙ sym b.0.name) (same_type e.body f.body a.0.body b.0.body)) (of_definitions ds es fs a.1 b.1)

  of_params : (ps : List ParamDef) (qs rs : List (Var × Ty)) → AllZip (IsParamOf names) ps qs → AllZip (IsParamOf names) ps rs → qs ≡ rs
  of_params [] [] [] a b = refl
  of_params [] [] (r ∷ rs) a b = absurd b
  of_params [] (q ∷ qs) rs a b = absurd a
  of_params (p ∷ ps) [] rs a b = absurd a
  of_params (p ∷ ps) (q ∷ qs) [] a b = absurd b
  of_params (p ∷ ps) (q ∷ qs) (r ∷ rs) a b =
      ap₂ ◌∷◌ (same_param q r (a.0.var ∙ sym b.0.var) (same_type q.1 r.1 a.0.ty b.0.ty)) (of_params ps qs rs a.1 b.1)

  of_proc : (p : ProcDef) (q r : Proc) → IsProcOf names p q → IsProcOf names p r → q.body ≡ r.body → q ≡ r
  of_proc p q r a b body =
      same_proc q r (a.name ∙ sym b.name) (of_params p.params q.params r.params a.params b.params) (same_type q.focus r.focus a.focus b.focus) (same_type q.result r.result a.result b.result) (a.result_at ∙ sym b.result_at) body

  -- procedures with their bodies, and the main statement behind them
  of_procs : (ps : List ProcDef) (qs rs : List Proc) (x y : Core) → AllZip (IsProcOf names) ps qs → AllZip (IsProcOf names) ps rs → map (λ q. q.body) qs ++ x ∷ [] ≡ map (λ r. r.body) rs ++ y ∷ [] → (qs ≡ rs) × (x ≡ y)
  of_procs [] [] [] x y a b is = (refl, list_head is)
  of_procs [] [] (r ∷ rs) x y a b is = absurd b
  of_procs [] (q ∷ qs) rs x y a b is = absurd a
  of_procs (p ∷ ps) [] rs x y a b is = absurd a
  of_procs (p ∷ ps) (q ∷ qs) [] x y a b is = absurd b
  of_procs (p ∷ ps) (q ∷ qs) (r ∷ rs) x y a b is =
      let others = of_procs ps qs rs x y a.1 b.1 (list_tail is) in
      (ap₂ ◌∷◌ (of_proc p q r a.0 b.0 (list_head is)) others.0, others.1)

  of_declared : (o : Option TypeText) (d e : Option Declared) → IsDeclaredOf names o d → IsDeclaredOf names o e → d ≡ e
  of_declared None None None a b = refl
  of_declared None None (Some e) a b = absurd b
  of_declared None (Some d) e a b = absurd a
  of_declared (Some t) None e a b = absurd a
  of_declared (Some t) (Some d) None a b = absurd b
  of_declared (Some t) (Some d) (Some e) a b =
      ap Some (same_declared d e (same_type d.ty e.ty a.0 b.0) (a.1 ∙ sym b.1))

same_normal : (n m : Normal) → n.defs ≡ m.defs → n.procs ≡ m.procs → n.input ≡ m.input → n.declared ≡ m.declared → n.main ≡ m.main → n ≡ m
same_normal n m defs procs input declared main =
    λ i. record { defs = defs i; procs = procs i; input = input i; declared = declared i; main = main i }

pub one_form : NormalFormIsUnique
one_form s n m a b =
    let names = type_names s in
    let code = of_procs names s.procs n.procs m.procs n.main m.main a.procs b.procs (sym a.statements ∙ b.statements) in
    same_normal n m (of_definitions names s.types n.defs m.defs a.defs b.defs) code.0 (same_type n.input m.input a.input b.input) (of_declared names s.output n.declared m.declared a.declared b.declared) code.1
