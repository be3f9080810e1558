-- Each query has an outcome, where inclusion is decided.
use Rattle.std.proofs.Common.{◌≡◌, ◌⊎◌, ◌≤◌, ℕ, zero, suc, ◌∷◌, Option, Some, None, length, refl, inl, inr, arith}
use Rattle.flux_atom.specs.declared.atom.AtomKind.TheVariants as kind
use Rattle.flux_trees.specs.Hedge.{Plain}
use Rattle.flux_schema.specs.Ty.{Ty, empty, atom, element, any_element, seq, alt, star, named}
use Rattle.flux_schema.specs.Definitions.{Definitions, IsKnown, IsGood}
use Rattle.flux_schema.specs.Member.{Member, Included}
use Rattle.flux_schema.proofs.Ranks.{most}
use Rattle.flux_calculus.specs.declared.ask.Var.{Var}
use Rattle.flux_calculus.specs.declared.ask.Span.{Span}
use Rattle.flux_calculus.specs.declared.ask.Test.{Test}
use Rattle.flux_calculus.specs.Query.{Query, nothing, both, literal, variable, binding, choice, alike, less, child, filter, each, found}
use Rattle.flux_calculus.specs.Query as query
use Rattle.flux_calculus.specs.Fault.{Fault}
use Rattle.flux_calculus.specs.Typing.{Context, Outcome, typed, faulty, Goal, of_query, of_map, Treatment, returning, keeping, IsAtomic, Types, of_nothing, of_one, of_several, first_of_several, others_of_several, of_element, content_of_element, of_literal, of_variable, of_no_variable, of_binding, bound_of_binding, of_choice, condition_of_choice, no_truth_of_choice, yes_of_choice, no_of_choice, of_alike, left_of_alike, right_of_alike, of_less, left_of_less, left_no_number, right_of_less, right_no_number, of_child, of_many_child, of_no_child, of_filter, from_of_filter, of_each, over_of_each, returns, body_of_each, keeps, of_empty, of_seq, left_of_seq, right_of_seq, of_alt, left_of_alt, right_of_alt, of_star, inside_of_star, of_name}
use Rattle.flux_typing.specs.Update.{StandsFor, for_one, for_none}
use Rattle.flux_typing.specs.Spelled.{IsRest, IsListed}
use Rattle.flux_typing.specs.Laws.{AllKnown, Decides}
use Rattle.flux_typing.proofs.QueryNames.{below_bound, below}
use Rattle.flux_typing.proofs.Ranked.{rank, body_with, stands_total}

module _ (Δ : Definitions) (good : IsGood Δ) (decide : Decides Δ) where
  -- an outcome of a goal
  abbrev HasOne : Goal → Type 0
  HasOne g = (o : Outcome) × Types Δ g o

  -- what is known of a part's type
  known : (Γ : Context) (q : Query) (t : Ty) → AllKnown Δ Γ → Types Δ (of_query Γ q) (typed t) → IsKnown Δ t
  known Γ q t v d = below Δ (length Δ) good.known Γ q t v d

  -- ---- maps

  -- what becomes of each tree
  abbrev OneTree : ℕ → Treatment → Type 0
  OneTree at f = (a : Ty) → IsAtomic a → IsKnown Δ a → HasOne (of_map at f a)

  pair : (at : ℕ) (f : Treatment) (t u : Ty) → HasOne (of_map at f t) → HasOne (of_map at f u) → HasOne (of_map at f (seq t u))
  pair at f t u (typed a, x) (typed b, y) = (_, of_seq x y refl)
  pair at f t u (typed a, x) (faulty g, y) = (faulty g, right_of_seq x y)
  pair at f t u (faulty g, x) y = (faulty g, left_of_seq x)

  either : (at : ℕ) (f : Treatment) (t u : Ty) → HasOne (of_map at f t) → HasOne (of_map at f u) → HasOne (of_map at f (alt t u))
  either at f t u (typed a, x) (typed b, y) = (_, of_alt x y refl)
  either at f t u (typed a, x) (faulty g, y) = (faulty g, right_of_alt x y)
  either at f t u (faulty g, x) y = (faulty g, left_of_alt x)

  repeated : (at : ℕ) (f : Treatment) (t : Ty) → HasOne (of_map at f t) → HasOne (of_map at f (star t))
  repeated at f t (typed a, x) = (_, of_star x refl)
  repeated at f t (faulty g, x) = (faulty g, inside_of_star x)

  map_at : (at : ℕ) (f : Treatment) → OneTree at f → (n : ℕ) (t : Ty) → most (rank Δ good) t ≤ n → IsKnown Δ t → HasOne (of_map at f t)
  map_at at f one n empty h k = (typed empty, of_empty)
  map_at at f one n (atom a) h k = one (atom a) tt k
  map_at at f one n (element l t) h k = one (element l t) tt k
  map_at at f one n (any_element t) h k = one (any_element t) tt k
  map_at at f one n (seq t u) h k = pair at f t u (map_at at f one n t (omega (arith, h)) k.0) (map_at at f one n u (omega (arith, h)) k.1)
  map_at at f one n (alt t u) h k = either at f t u (map_at at f one n t (omega (arith, h)) k.0) (map_at at f one n u (omega (arith, h)) k.1)
  map_at at f one n (star t) h k = repeated at f t (map_at at f one n t h k)
  map_at at f one zero (named x) h k = absurd (omega (arith, h))
  map_at at f one (suc n) (named x) h k =
      let b = body_with Δ good n x h k in
      let o = map_at at f one n b.type b.ranks b.known in
      (o.0, of_name b.is o.1)

  map_total : (at : ℕ) (f : Treatment) (t : Ty) → OneTree at f → IsKnown Δ t → HasOne (of_map at f t)
  map_total at f t one k = map_at at f one (most (rank Δ good) t) t (omega arith) k

  -- ---- queries, where their parts have outcomes

  several : (Γ : Context) (at next : Span) (q r s : Query) → HasOne (of_query Γ q) → HasOne (of_query Γ (both next r s)) → HasOne (of_query Γ (both at q (both next r s)))
  several Γ at next q r s (typed t, x) (typed u, y) = (_, of_several x y refl)
  several Γ at next q r s (typed t, x) (faulty g, y) = (faulty g, others_of_several x y)
  several Γ at next q r s (faulty g, x) y = (faulty g, first_of_several x)

  element_by : (Γ : Context) (at : Span) (n : ℕ) (q : Query) → HasOne (of_query Γ q) → HasOne (of_query Γ (query.element at n q))
  element_by Γ at n q (typed t, x) = (_, of_element x refl)
  element_by Γ at n q (faulty g, x) = (faulty g, content_of_element x)

  variable_by : (Γ : Context) (at : Span) (x : Var) (o : Option Ty) → found Γ x ≡ o → HasOne (of_query Γ (variable at x))
  variable_by Γ at x (Some t) e = (typed t, of_variable e)
  variable_by Γ at x None e = (_, of_no_variable e)

  binding_by : (Γ : Context) (at : Span) (x : Var) (q r : Query) → AllKnown Δ Γ → HasOne (of_query Γ q) → ((t : Ty) → AllKnown Δ ((x, t) ∷ Γ) → HasOne (of_query ((x, t) ∷ Γ) r)) → HasOne (of_query Γ (binding at x q r))
  binding_by Γ at x q r v (typed t, d) f = let o = f t (below_bound (length Δ) Γ x t v (known Γ q t v d)) in (o.0, of_binding d o.1)
  binding_by Γ at x q r v (faulty g, d) f = (faulty g, bound_of_binding d)

  -- a query's type is included in a kind, or a forest is against it, or the query is faulty
  data Held (Γ : Context) (q : Query) (u : Ty) : Type 0 where
    held : {t : Ty} → Types Δ (of_query Γ q) (typed t) → Included Δ t u → Held Γ q u
    against : {t : Ty} (v : Plain) → Types Δ (of_query Γ q) (typed t) → Member Δ v t → ¬ (Member Δ v u) → Held Γ q u
    wrong : {g : Fault} → Types Δ (of_query Γ q) (faulty g) → Held Γ q u

  holds : (Γ : Context) (q : Query) (u : Ty) → IsKnown Δ u → AllKnown Δ Γ → HasOne (of_query Γ q) → Held Γ q u
  holds Γ q u k v (faulty g, d) = wrong d
  holds Γ q u k v (typed t, d) = by (decide t u (known Γ q t v d) k)
    where
      by : Included Δ t u ⊎ ((w : Plain) × Member Δ w t × ¬ (Member Δ w u)) → Held Γ q u
      by (inl i) = held d i
      by (inr (w, m, n)) = against w d m n

  choice_by : (Γ : Context) (at : Span) (c q r : Query) → Held Γ c (atom kind.Bool) → HasOne (of_query Γ q) → HasOne (of_query Γ r) → HasOne (of_query Γ (choice at c q r))
  choice_by Γ at c q r (held d i) (typed t, x) (typed u, y) = (_, of_choice d i x y refl)
  choice_by Γ at c q r (held d i) (typed t, x) (faulty g, y) = (faulty g, no_of_choice d i x y)
  choice_by Γ at c q r (held d i) (faulty g, x) y = (faulty g, yes_of_choice d i x)
  choice_by Γ at c q r (against w d m n) x y = (_, no_truth_of_choice w d m n)
  choice_by Γ at c q r (wrong d) x y = (_, condition_of_choice d)

  alike_by : (Γ : Context) (at : Span) (q r : Query) → HasOne (of_query Γ q) → HasOne (of_query Γ r) → HasOne (of_query Γ (alike at q r))
  alike_by Γ at q r (typed t, x) (typed u, y) = (_, of_alike x y)
  alike_by Γ at q r (typed t, x) (faulty g, y) = (faulty g, right_of_alike x y)
  alike_by Γ at q r (faulty g, x) y = (faulty g, left_of_alike x)

  less_by : (Γ : Context) (at : Span) (q r : Query) → Held Γ q (atom kind.Int) → Held Γ r (atom kind.Int) → HasOne (of_query Γ (less at q r))
  less_by Γ at q r (held d i) (held e j) = (_, of_less d i e j)
  less_by Γ at q r (held d i) (against w e m n) = (_, right_no_number w d i e m n)
  less_by Γ at q r (held d i) (wrong e) = (_, right_of_less d i e)
  less_by Γ at q r (against w d m n) h = (_, left_no_number w d m n)
  less_by Γ at q r (wrong d) h = (_, left_of_less d)

  child_of : (Γ : Context) (at : Span) (x : Var) (t : Ty) (a : Option Ty) → found Γ x ≡ Some t → StandsFor Δ t a → HasOne (of_query Γ (child at x))
  child_of Γ at x t (Some a) e (for_one s) = (_, of_child e s)
  child_of Γ at x t None e (for_none n) = (_, of_many_child e n)

  child_by : (Γ : Context) (at : Span) (x : Var) (o : Option Ty) → AllKnown Δ Γ → found Γ x ≡ o → HasOne (of_query Γ (child at x))
  child_by Γ at x (Some t) v e = let a = stands_total Δ good t (v x t e) in child_of Γ at x t a.0 e a.1
  child_by Γ at x None v e = (_, of_no_child e)

  filter_by : (Γ : Context) (at : Span) (q : Query) (p : Test) → AllKnown Δ Γ → HasOne (of_query Γ q) → HasOne (of_query Γ (filter at q p))
  filter_by Γ at q p v (typed t, d) = let o = map_total at.from (keeping p) t (λ a i k. (_, keeps i refl)) (known Γ q t v d) in (o.0, of_filter d o.1)
  filter_by Γ at q p v (faulty g, d) = (faulty g, from_of_filter d)

  return_by : (Γ : Context) (at : ℕ) (x : Var) (r : Query) (a : Ty) → IsAtomic a → HasOne (of_query ((x, a) ∷ Γ) r) → HasOne (of_map at (returning Γ x r) a)
  return_by Γ at x r a i (typed t, d) = (_, returns i d refl)
  return_by Γ at x r a i (faulty g, d) = (faulty g, body_of_each i d)

  each_by : (Γ : Context) (at : Span) (x : Var) (q r : Query) → AllKnown Δ Γ → HasOne (of_query Γ q) → ((t : Ty) → AllKnown Δ ((x, t) ∷ Γ) → HasOne (of_query ((x, t) ∷ Γ) r)) → HasOne (of_query Γ (each at x q r))
  each_by Γ at x q r v (typed t, d) f =
      let o = map_total at.from (returning Γ x r) t (λ a i k. return_by Γ at.from x r a i (f a (below_bound (length Δ) Γ x a v k))) (known Γ q t v d) in
      (o.0, of_each d o.1)
  each_by Γ at x q r v (faulty g, d) f = (faulty g, over_of_each d)

  -- those behind the first are nothing, or several
  others_by : (Γ : Context) (at : Span) (q r : Query) → IsRest r → HasOne (of_query Γ q) → HasOne (of_query Γ r) → HasOne (of_query Γ (both at q r))
  others_by Γ at q (nothing end) i x y = (x.0, of_one x.1)
  others_by Γ at q (both next r s) i x y = several Γ at next q r s x y
  others_by Γ at q (query.element end n r) i x y = absurd i
  others_by Γ at q (literal end z) i x y = absurd i
  others_by Γ at q (variable end z) i x y = absurd i
  others_by Γ at q (binding end z r s) i x y = absurd i
  others_by Γ at q (choice end c r s) i x y = absurd i
  others_by Γ at q (alike end r s) i x y = absurd i
  others_by Γ at q (less end r s) i x y = absurd i
  others_by Γ at q (child end z) i x y = absurd i
  others_by Γ at q (filter end r t) i x y = absurd i
  others_by Γ at q (each end z r s) i x y = absurd i

  pub query_total : (q : Query) → IsListed q → (Γ : Context) → AllKnown Δ Γ → HasOne (of_query Γ q)
  query_total (nothing at) l Γ v = (typed empty, of_nothing)
  query_total (both at q r) l Γ v = others_by Γ at q r l.2 (query_total q l.0 Γ v) (query_total r l.1 Γ v)
  query_total (query.element at n q) l Γ v = element_by Γ at n q (query_total q l Γ v)
  query_total (literal at x) l Γ v = (_, of_literal x)
  query_total (variable at x) l Γ v = variable_by Γ at x (found Γ x) refl
  query_total (binding at x q r) l Γ v = binding_by Γ at x q r v (query_total q l.0 Γ v) (λ t k. query_total r l.1 ((x, t) ∷ Γ) k)
  query_total (choice at c q r) l Γ v = choice_by Γ at c q r (holds Γ c (atom kind.Bool) tt v (query_total c l.0 Γ v)) (query_total q l.1 Γ v) (query_total r l.2 Γ v)
  query_total (alike at q r) l Γ v = alike_by Γ at q r (query_total q l.0 Γ v) (query_total r l.1 Γ v)
  query_total (less at q r) l Γ v = less_by Γ at q r (holds Γ q (atom kind.Int) tt v (query_total q l.0 Γ v)) (holds Γ r (atom kind.Int) tt v (query_total r l.1 Γ v))
  query_total (child at x) l Γ v = child_by Γ at x (found Γ x) v refl
  query_total (filter at q p) l Γ v = filter_by Γ at q p v (query_total q l Γ v)
  query_total (each at x q r) l Γ v = each_by Γ at x q r v (query_total q l.0 Γ v) (λ t k. query_total r l.1 ((x, t) ∷ Γ) k)
