-- Procedures with their bodies.
use Rattle.std.proofs.Common.{◌≡◌, ◌+◌, ◌<◌, ◌≤◌, ℕ, zero, suc, List, [], ◌∷◌, ◌++◌, All, length, drop, drop-cons, get_or, append-nil, map, flat_map, refl, sym, subst, ap, ap₂, ◌∙◌, add-one, arith}
use Rattle.std.specs.List.{AllZip}
use Rattle.std.proofs.lemmas.List.{drop_all}
use Rattle.std.proofs.lemmas.List.Elements.{All-nil, All-cons}
use Rattle.flux_types.specs.Read.{ty_of}
use Rattle.flux_schema.specs.Ty.{Ty}
use Rattle.flux_calculus.specs.declared.ask.Var.{Var}
use Rattle.flux_calculus.specs.Core as calculus
use Rattle.flux_core.specs.declared.param.Param.{Param}
use Rattle.flux_core.specs.Statements.{param_of}
use Rattle.flux_grammar.specs.declared.tree.ParamDef.{ParamDef}
use Rattle.flux_grammar.specs.declared.tree.ProcDef.{ProcDef}
use Rattle.flux_grammar.specs.NormalForm.{IsParamOf, IsProcOf}
use Rattle.flux_grammar.specs.NormalFaults.{Call, calls}
use Rattle.flux_grammar.specs.NormalQueries.{Numbered, of_all}
use Rattle.flux_grammar.proofs.NameLists.{all_first, all_second}
use Rattle.flux_normal.specs.declared.headers.Header.{Header}
use Rattle.flux_normal.specs.Bodies.{IsNamed, IsWritten}
use Rattle.flux_normal.specs.Headers.{IsParamMade, IsHeaderOf}
use Rattle.flux_normal.specs.Heads.{Head, AllFit}
use Rattle.flux_normal.proofs.CallLaws.{flat-append}
use Rattle.flux_normal.proofs.Counted.{behind}
use Rattle.flux_normal.proofs.HeaderLaws.{MadeSoFar}

module _ (names : List ℕ) where
  params_of : (ps : List ParamDef) (qs : List Param) → AllZip (IsParamMade names) ps qs → AllZip (IsParamOf names) ps (map param_of qs)
  params_of [] [] made = made
  params_of [] (q ∷ qs) made = absurd made
  params_of (p ∷ ps) [] made = absurd made
  params_of (p ∷ ps) (q ∷ qs) made = (record { var = made.0.var; ty = made.0.ty.ty.same }, params_of ps qs made.1)

  params_named : (ps : List ParamDef) (qs : List Param) → AllZip (IsParamMade names) ps qs → All (λ (x : Var × Ty). IsNamed names x.1) (map param_of qs)
  params_named [] [] made = All-nil (λ (x : Var × Ty). IsNamed names x.1)
  params_named [] (q ∷ qs) made = absurd made
  params_named (p ∷ ps) [] made = absurd made
  params_named (p ∷ ps) (q ∷ qs) made =
      All-cons (λ (x : Var × Ty). IsNamed names x.1) (param_of q) (map param_of qs) (record { known = made.0.ty.ty.below; limits = made.0.ty.limits }) (params_named ps qs made.1)

  pub with_a_body : (heads : List Head) (p : ProcDef) (h : Header) (s : calculus.Core) → IsHeaderOf names p h → AllFit heads s
      → IsWritten names heads p (record { name = h.name; params = map param_of h.params; focus = ty_of h.focus; result = ty_of h.result; result_at = h.result_at; body = s })
  with_a_body heads p h s made fit = record {
    written = record {
      name = made.name;
      params = params_of p.params h.params made.params;
      focus = made.focus.ty.same;
      result = made.result.ty.same;
      result_at = made.result_at;
    };
    params = params_named p.params h.params made.params;
    focus = record { known = made.focus.ty.below; limits = made.focus.limits };
    result = record { known = made.result.ty.below; limits = made.result.limits };
    calls = fit;
  }

-- lists of which parts are taken in step
module _ {A B : Type 0} (R : A → B → Type 0) where
  pub zip_within : (all : List A) (i : ℕ) (y : B) (ys rest : List B) → rest ≡ y ∷ ys → AllZip R (drop i all) rest → i < length all
  zip_within [] i y ys rest e zip = absurd (subst (AllZip R []) e (subst (λ l. AllZip R l rest) (drop_all i [] (omega arith)) zip))
  zip_within (x ∷ xs) zero y ys rest e zip = omega arith
  zip_within (x ∷ xs) (suc i) y ys rest e zip = omega (arith, zip_within xs i y ys rest e zip)

  pub zip_next : (all : List A) (i : ℕ) (x : A) (y : B) (ys rest : List B) → rest ≡ y ∷ ys → x ≡ get_or all i x → AllZip R (drop i all) rest → R x y × AllZip R (drop (i + 1) all) ys
  zip_next all i x y ys rest e is zip =
      let lt = zip_within all i y ys rest e zip in
      subst (λ l. AllZip R l (y ∷ ys)) (drop-cons all i x lt ∙ ap₂ (λ z n. z ∷ drop n all) (sym is) (sym (add-one i))) (subst (AllZip R (drop i all)) e zip)

  pub zip_end : (xs : List A) (ys : List B) → length ys ≡ 0 → AllZip R xs ys → xs ≡ []
  zip_end [] ys e zip = refl
  zip_end (x ∷ xs) [] e zip = absurd zip
  zip_end (x ∷ xs) (y ∷ ys) e zip = absurd (omega (arith, e))

-- the calls of the procedure that is next, and of those behind it
module _ (P : Call → Type 0) (all : List ProcDef) (i : ℕ) (x : ProcDef) (lt : i < length all) (is : x ≡ get_or all i x) (h : All P (flat_map calls (flat_map (λ (p : ProcDef). p.body) (drop i all)))) where
  apart : All P (flat_map calls x.body ++ flat_map calls (flat_map (λ (p : ProcDef). p.body) (drop (i + 1) all)))
  apart =
      subst (All P)
      (ap (λ l. flat_map calls (flat_map (λ (p : ProcDef). p.body) l)) (drop-cons all i x lt ∙ ap₂ (λ z n. z ∷ drop n all) (sym is) (sym (add-one i)))
      ∙ flat-append x.body (flat_map (λ (p : ProcDef). p.body) (drop (i + 1) all))) h

  pub calls_here : All P (flat_map calls x.body)
  calls_here = all_first P (flat_map calls x.body) (flat_map calls (flat_map (λ (p : ProcDef). p.body) (drop (i + 1) all))) apart

  pub calls_later : All P (flat_map calls (flat_map (λ (p : ProcDef). p.body) (drop (i + 1) all)))
  calls_later = all_second P (flat_map calls x.body) (flat_map calls (flat_map (λ (p : ProcDef). p.body) (drop (i + 1) all))) apart

-- when no header is left, no procedure is
module _ {A B C : Type 0} (R : A → B → Type 0) (S : A → C → Type 0) (all : List A) (i : ℕ) (rest : List B) (e : length rest ≡ 0) (zip : AllZip R (drop i all) rest) where
  none_left : drop i all ≡ []
  none_left = zip_end R (drop i all) rest e zip

  pub zip_made : (done : List C) → MadeSoFar S all i done → AllZip S all done
  zip_made done so = subst (AllZip S all) (append-nil done) (so [] (subst (λ l. AllZip S l []) (sym none_left) tt))

  pub all_numbered : (f : A → Numbered calculus.Core) (g : C → calculus.Core) (done : List C) (k m : ℕ) → behind (map g done) (of_all (map f (drop i all)) k) ≡ of_all (map f all) m → of_all (map f all) m ≡ (map g done, k)
  all_numbered f g done k m so = sym so ∙ ap (λ l. behind (map g done) (of_all (map f l) k)) none_left ∙ ap (λ l. (l, k)) (append-nil (map g done))
