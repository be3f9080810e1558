-- Parameters that are bound to the values of their arguments, from the last to the first.
use Rattle.std.proofs.Common.{◌≡◌, ◌∙◌, refl, sym, ap, ap₂, subst, ℕ, zero, suc, ◌-◌, ◌<◌, ◌≤◌, arith, List, [], ◌∷◌, length, drop, Option, Some, None, IsSome, map}
use Rattle.std.proofs.Math.ListN.{get_or, get_or-map}
use Rattle.std.proofs.Math.Seq.{drop-cons}
use Rattle.std.proofs.lemmas.List.{length-map}
use Rattle.flux_trees.specs.Hedge.{Plain}
use Rattle.flux_schema.specs.Ty.{Ty}
use Rattle.flux_calculus.specs.declared.ask.Var.{Var}
use Rattle.flux_calculus.specs.Query.{Query, Environment, value}
use Rattle.flux_calculus.specs.Typing.{Context}
use Rattle.flux_calculus.specs.Derives.{bound_first, bound_to}
use Rattle.flux_query.specs.declared.query.Query.{Query as Tree}
use Rattle.flux_query.specs.Read.{query_of}
use Rattle.flux_core.specs.declared.param.Param.{Param}
use Rattle.flux_core.specs.Statements.{param_of}

first_some : (x : Var) (o : Option Plain) (e : Option Environment) → IsSome (bound_first x o e) → IsSome o
first_some x None e h = cc
first_some x (Some v) e h = refl

rest_some : (x : Var) (o : Option Plain) (e : Option Environment) → IsSome (bound_first x o e) → IsSome e
rest_some x None e h = cc
rest_some x (Some v) None h = cc
rest_some x (Some v) (Some δ) h = refl

lengths : (γ : Environment) (ps : Context) (qs : List Query) → IsSome (bound_to γ ps qs) → length ps ≡ length qs
lengths γ [] [] h = refl
lengths γ [] (q ∷ qs) h = cc
lengths γ (p ∷ ps) [] h = cc
lengths γ (p ∷ ps) (q ∷ qs) h = ap suc (lengths γ ps qs (rest_some p.0 (value γ q) (bound_to γ ps qs) h))

none_left : (γ : Environment) (ps : Context) (qs : List Query) → IsSome (bound_to γ ps qs) → bound_to γ (drop (length qs) ps) (drop (length qs) qs) ≡ Some []
none_left γ [] [] h = refl
none_left γ [] (q ∷ qs) h = cc
none_left γ (p ∷ ps) [] h = cc
none_left γ (p ∷ ps) (q ∷ qs) h = none_left γ ps qs (rest_some p.0 (value γ q) (bound_to γ ps qs) h)

some_value : (γ : Environment) (ps : Context) (qs : List Query) (i : ℕ) (q : Query) → IsSome (bound_to γ ps qs) → i < length qs → get_or qs i q ≡ q → IsSome (value γ q)
some_value γ [] [] i q h l e = absurd (omega (arith, l))
some_value γ [] (r ∷ qs) i q h l e = cc
some_value γ (p ∷ ps) [] i q h l e = cc
some_value γ (p ∷ ps) (r ∷ qs) zero q h l e = subst (λ x. IsSome (value γ x)) e (first_some p.0 (value γ r) (bound_to γ ps qs) h)
some_value γ (p ∷ ps) (r ∷ qs) (suc i) q h l e = some_value γ ps qs i q (rest_some p.0 (value γ r) (bound_to γ ps qs) h) (omega (arith, l)) e

one_more : (γ δ : Environment) (ps : Context) (qs : List Query) (i : ℕ) (p : Var × Ty) (q : Query) (u : Plain) → i < length ps → i < length qs → get_or ps i p ≡ p → get_or qs i q ≡ q → value γ q ≡ Some u →
    bound_to γ (drop (suc i) ps) (drop (suc i) qs) ≡ Some δ → bound_to γ (drop i ps) (drop i qs) ≡ Some ((p.0, u) ∷ δ)
one_more γ δ ps qs i p q u k l e f g h =
    ap₂ (bound_to γ) (drop-cons ps i p k ∙ ap (λ x. x ∷ drop (suc i) ps) e) (drop-cons qs i q l ∙ ap (λ x. x ∷ drop (suc i) qs) f)
    ∙ ap₂ (bound_first p.0) g h

-- ---- the same of the Rust trees

module _ (γ : Environment) (params : List Param) (args : List Tree) (some : IsSome (bound_to γ (map param_of params) (map query_of args))) where
  pub as_many : length params ≡ length args
  as_many = sym (length-map params param_of) ∙ lengths γ (map param_of params) (map query_of args) some ∙ length-map args query_of

  pub none_bound : bound_to γ (drop (length args) (map param_of params)) (drop (length args) (map query_of args)) ≡ Some []
  none_bound = subst (λ n. bound_to γ (drop n (map param_of params)) (drop n (map query_of args)) ≡ Some []) (length-map args query_of) (none_left γ (map param_of params) (map query_of args) some)

  pub has_value : (i : ℕ) (q : Tree) → i < length args → q ≡ get_or args i q → IsSome (value γ (query_of q))
  has_value i q l e = some_value γ (map param_of params) (map query_of args) i (query_of q) some (omega (arith, l, length-map args query_of)) (get_or-map query_of args i q ∙ ap query_of (sym e))

  pub binds_more : (left : ℕ) (p : Param) (q : Tree) (u : Plain) (δ δ' : Environment) → 0 < left → left ≤ length args → p ≡ get_or params (left - 1) p → q ≡ get_or args (left - 1) q → value γ (query_of q) ≡ Some u →
      bound_to γ (drop left (map param_of params)) (drop left (map query_of args)) ≡ Some δ → δ' ≡ (p.var, u) ∷ δ →
      bound_to γ (drop (left - 1) (map param_of params)) (drop (left - 1) (map query_of args)) ≡ Some δ'
  binds_more zero p q u δ δ' z l e f g h j = absurd (omega (arith, z))
  binds_more (suc i) p q u δ δ' z l e f g h j =
      let one : suc i - 1 ≡ i = omega arith in
      let e' : p ≡ get_or params i p = e ∙ ap (λ n. get_or params n p) one in
      let f' : q ≡ get_or args i q = f ∙ ap (λ n. get_or args n q) one in
      rw one (one_more γ δ (map param_of params) (map query_of args) i (param_of p) (query_of q) u
      (omega (arith, l, as_many, length-map params param_of)) (omega (arith, l, length-map args query_of))
      (get_or-map param_of params i p ∙ ap param_of (sym e')) (get_or-map query_of args i q ∙ ap query_of (sym f')) g h ∙ ap Some (sym j))
