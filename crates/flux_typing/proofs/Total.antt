-- Each statement has an outcome, where inclusion is decided.
use Rattle.std.proofs.Common.{◌≡◌, ◌⊎◌, ◌≤◌, ℕ, zero, suc, List, [], ◌∷◌, Option, Some, None, length, refl, sym, subst, inl, inr, arith}
use Rattle.std.specs.Prelude.{IsSomeAnd}
use Rattle.std.specs.List.{AllByRecursion}
use Rattle.std.proofs.lemmas.List.Elements.{recursion_from_All}
use Rattle.flux_atom.specs.declared.atom.AtomKind.TheVariants as kind
use Rattle.flux_trees.specs.Hedge.{Plain}
use Rattle.flux_schema.specs.Ty.{Ty, empty, atom, element, any_element, seq, alt, star, named}
use Rattle.flux_schema.specs.Definitions.{Definitions, IsKnown, IsGood}
use Rattle.flux_schema.specs.Member.{Member, Included}
use Rattle.flux_schema.specs.Single.{Single}
use Rattle.flux_schema.proofs.Ranks.{most}
use Rattle.flux_calculus.specs.declared.ask.Test.{Test}
use Rattle.flux_calculus.specs.declared.ask.Var.{Var}
use Rattle.flux_calculus.specs.declared.ask.Span.{Span}
use Rattle.flux_calculus.specs.Fault.{Fault, bad_argument, bad_focus, not_bool, not_empty}
use Rattle.flux_calculus.specs.Query.{Query, place_of}
use Rattle.flux_calculus.specs.Typing.{Context, content_type, Types, of_query}
use Rattle.flux_calculus.specs.Typing as query
use Rattle.flux_calculus.specs.Core.{Core, skip, nothing, both, choice, binding, snapshot, insert, delete, rename, test, children, left, right, iter, call, Proc, Procs, proc_of}
use Rattle.flux_typing.specs.Update.{Outcome, typed, faulty, or_fault, with_definitions, Checks, fits, misses, was_faulty, StandsFor, for_one, for_none, Arguments, no_more, one_more, one_wrong, content_of, Verdict, passes, fails, undecided, verdict, tested_as, tested, Goal, of_value, of_core, of_map, behind, Has, stops, goes_on, gives, has_value, of_skip, of_nothing, of_both, of_choice, of_binding, of_snapshot, of_insert, of_delete, of_rename, of_test, of_children, of_left, of_right, of_iter, of_call, at_atom, at_element, at_any, of_empty, of_seq, of_alt, of_star, of_name}
use Rattle.flux_typing.specs.Spelled.{IsListed, AreListed, IsSpelled}
use Rattle.flux_typing.specs.Laws.{AllKnown, AreKnownProcs, Decides}
use Rattle.flux_typing.proofs.Typed.{succeeds}
use Rattle.flux_typing.proofs.Kept.{kept, kept_map}
use Rattle.flux_typing.proofs.QueryNames.{below_bound, content_below, single_below, below}
use Rattle.flux_typing.proofs.Names as names
use Rattle.flux_typing.proofs.Ranked.{rank, body_with, stands_total}
use Rattle.flux_typing.proofs.QueriesTotal.{query_total}

module _ (procs : Procs) (Δ : Definitions) (good : IsGood Δ) (types : AreKnownProcs Δ procs) (decide : Decides Δ) where
  results : (p : ℕ) (q : Proc) → proc_of procs p ≡ Some q → IsKnown Δ q.result
  results p q e = (types p q e).result

  -- where it is a type, it is known, under the same definitions
  abbrev Facts : Outcome → Type 0
  Facts (typed u Δ') = (Δ' ≡ Δ) × IsKnown Δ u
  Facts (faulty f) = Unit {0}

  abbrev HasOne : Goal → Type 0
  HasOne g = (o : Outcome) × Has procs g o × Facts o

  core_facts : (Γ : Context) (t : Ty) (s : Core) (o : Outcome) → AllKnown Δ Γ → IsKnown Δ t → Has procs (of_core Δ Γ t s) o → Facts o
  core_facts Γ t s (typed u Δ') v h d = (kept (succeeds procs d), names.core_below procs (length Δ) results good.known (succeeds procs d) v h)
  core_facts Γ t s (faulty f) v h d = tt

  map_facts : (at : ℕ) (Γ : Context) (t : Ty) (s : Core) (o : Outcome) → AllKnown Δ Γ → IsKnown Δ t → Has procs (of_map at Δ Γ t s) o → Facts o
  map_facts at Γ t s (typed u Δ') v h d = (kept_map (succeeds procs d), names.map_below procs (length Δ) results good.known (succeeds procs d) v h)
  map_facts at Γ t s (faulty f) v h d = tt

  has_core : (Γ : Context) (t : Ty) (s : Core) (o : Outcome) → AllKnown Δ Γ → IsKnown Δ t → Has procs (of_core Δ Γ t s) o → HasOne (of_core Δ Γ t s)
  has_core Γ t s o v h d = (o, d, core_facts Γ t s o v h d)

  has_map : (at : ℕ) (Γ : Context) (t : Ty) (s : Core) (o : Outcome) → AllKnown Δ Γ → IsKnown Δ t → Has procs (of_map at Δ Γ t s) o → HasOne (of_map at Δ Γ t s)
  has_map at Γ t s o v h d = (o, d, map_facts at Γ t s o v h d)

  query_facts : (Γ : Context) (q : Query) (a : query.Outcome) → AllKnown Δ Γ → Types Δ (of_query Γ q) a → Facts (with_definitions Δ a)
  query_facts Γ q (query.typed u) v d = (refl, below Δ (length Δ) good.known Γ q u v d)
  query_facts Γ q (query.faulty f) v d = tt

  value_total : (Γ : Context) (q : Query) → IsListed q → AllKnown Δ Γ → HasOne (of_value Δ Γ q)
  value_total Γ q l v = let a = query_total Δ good decide q l Γ v in (with_definitions Δ a.0, has_value a.1, query_facts Γ q a.0 v a.1)

  behind_total : (a : Outcome) (next : Ty → Definitions → Goal) → Facts a → ((u : Ty) → IsKnown Δ u → HasOne (next u Δ)) → HasOne (behind a next)
  behind_total (typed u Δ') next f h = let o = h u f.1 in subst (λ z. HasOne (behind (typed u z) next)) (sym f.0) (o.0, goes_on o.1, o.2)
  behind_total (faulty f) next _ h = (faulty f, stops, tt)

  checks_total : (u : Ty) (f : Ty → Ty → Fault) (a : Outcome) → IsKnown Δ u → Facts a → (o : Outcome) × Checks u f a o × Facts o
  checks_total u f (typed t Δ') k h = subst (λ z. (o : Outcome) × Checks u f (typed t z) o × Facts o) (sym h.0) (by (decide t u h.1 k))
    where
      by : Included Δ t u ⊎ ((v : Plain) × Member Δ v t × ¬ (Member Δ v u)) → (o : Outcome) × Checks u f (typed t Δ) o × Facts o
      by (inl i) = (typed t Δ, fits i, (refl, h.1))
      by (inr (v, m, n)) = (faulty (f t u), misses v m n, tt)
  checks_total u f (faulty e) k h = (faulty e, was_faulty, tt)

  -- ---- maps

  module _ (at : ℕ) (Γ : Context) (v : AllKnown Δ Γ) (s : Core) (core : (a : Ty) → IsKnown Δ a → HasOne (of_core Δ Γ a s)) where
    map_at : (n : ℕ) (t : Ty) → most (rank Δ good) t ≤ n → IsKnown Δ t → HasOne (of_map at Δ Γ t s)
    map_at n empty h k = (typed empty Δ, of_empty, (refl, tt))
    map_at n (atom a) h k = let o = core (atom a) k in has_map at Γ (atom a) s _ v k (at_atom o.1 refl)
    map_at n (element l t) h k = let o = core (element l t) k in has_map at Γ (element l t) s _ v k (at_element o.1 refl)
    map_at n (any_element t) h k = let o = core (any_element t) k in has_map at Γ (any_element t) s _ v k (at_any o.1 refl)
    map_at n (seq t u) h k =
        let a = map_at n t (omega (arith, h)) k.0 in
        let c = map_at n u (omega (arith, h)) k.1 in
        let b = behind_total a.0 (λ _ Δ'. of_map at Δ' Γ u s) a.2 (λ w i. c) in
        has_map at Γ (seq t u) s _ v k (of_seq {b = b.0} a.1 b.1 refl)
    map_at n (alt t u) h k =
        let a = map_at n t (omega (arith, h)) k.0 in
        let c = map_at n u (omega (arith, h)) k.1 in
        let b = behind_total a.0 (λ _ Δ'. of_map at Δ' Γ u s) a.2 (λ w i. c) in
        has_map at Γ (alt t u) s _ v k (of_alt {b = b.0} a.1 b.1 refl)
    map_at n (star t) h k = let a = map_at n t h k in has_map at Γ (star t) s _ v k (of_star a.1 refl)
    map_at zero (named x) h k = absurd (omega (arith, h))
    map_at (suc n) (named x) h k =
        let b = body_with Δ good n x h k in
        let o = map_at n b.type b.ranks b.known in
        has_map at Γ (named x) s o.0 v k (of_name b.is o.1)

  -- ---- statements

  argument_step : (Γ : Context) (x : Var) (u : Ty) (ps : Context) (q : Query) (qs : List Query) (a : query.Outcome) (o : Outcome) → Types Δ (of_query Γ q) a → Checks u (bad_argument (place_of q)) (with_definitions Δ a) o →
      ((f : Option Fault) × Arguments Δ Γ ps qs f) → (f : Option Fault) × Arguments Δ Γ ((x, u) ∷ ps) (q ∷ qs) f
  argument_step Γ x u ps q qs a (typed t Δ') d c r = (r.0, one_more d c r.1)
  argument_step Γ x u ps q qs a (faulty f) d c r = (Some f, one_wrong d c)

  arguments_total : (Γ : Context) → AllKnown Δ Γ → (ps : Context) (qs : List Query) → length qs ≡ length ps → AreListed qs → AllByRecursion (λ p. IsKnown Δ p.1) ps → (o : Option Fault) × Arguments Δ Γ ps qs o
  arguments_total Γ v [] [] m l k = (None, no_more)
  arguments_total Γ v (p ∷ ps) (q ∷ qs) m l k =
      let a = query_total Δ good decide q l.0 Γ v in
      let c = checks_total p.1 (bad_argument (place_of q)) (with_definitions Δ a.0) k.0 (query_facts Γ q a.0 v a.1) in
      argument_step Γ p.0 p.1 ps q qs a.0 c.0 a.1 c.1 (arguments_total Γ v ps qs (omega (arith, m)) l.1 k.1)
  arguments_total Γ v [] (q ∷ qs) m l k = absurd (omega (arith, m))
  arguments_total Γ v (p ∷ ps) [] m l k = absurd (omega (arith, m))

  or_facts : (a : Option Fault) (t : Ty) → IsKnown Δ t → Facts (or_fault a (typed t Δ))
  or_facts None t h = (refl, h)
  or_facts (Some f) t h = tt

  called : (p : ℕ) (args : List Query) (o : Option Proc) → proc_of procs p ≡ o → IsSomeAnd o (λ q. length args ≡ length q.params) → (q : Proc) × (proc_of procs p ≡ Some q) × (length args ≡ length q.params)
  called p args (Some q) e l = (q, e, l)
  called p args None e l = absurd l

  call_total : (Γ : Context) (t : Ty) (at : Span) (p : ℕ) (args : List Query) → AllKnown Δ Γ → IsKnown Δ t → IsSomeAnd (proc_of procs p) (λ q. length args ≡ length q.params) → AreListed args → HasOne (of_core Δ Γ t (call at p args))
  call_total Γ t at p args v h c l =
      let q = called p args (proc_of procs p) refl c in
      let k = types p q.0 q.1 in
      let a = arguments_total Γ v q.0.params args q.2 l (recursion_from_All (λ p. IsKnown Δ p.1) q.0.params k.params) in
      let b = checks_total q.0.focus (bad_focus at.from) (or_fault a.0 (typed t Δ)) k.focus (or_facts a.0 t h) in
      has_core Γ t (call at p args) _ v h (of_call q.1 a.1 b.1 refl)

  -- what stands for a known type is known
  stood : (t a : Ty) → IsKnown Δ t → Single Δ t a → IsKnown Δ a
  stood t a k h = single_below Δ (length Δ) good.known h k

  tested_as_total : (w : Verdict) (Γ : Context) (a : Ty) (s : Core) → IsKnown Δ a → ((a : Ty) → IsKnown Δ a → HasOne (of_core Δ Γ a s)) → (b : Outcome) × Has procs (tested_as w Δ Γ a s) b
  tested_as_total passes Γ a s k core = let o = core a k in (o.0, o.1)
  tested_as_total fails Γ a s k core = (typed a Δ, gives)
  tested_as_total (undecided l) Γ a s k core = let o = core (element l (content_type a)) (content_below (length Δ) a k) in (o.0, o.1)

  test_total : (at : ℕ) (p : Test) (Γ : Context) (t : Ty) (a : Option Ty) (s : Core) → IsKnown Δ t → StandsFor Δ t a → ((a : Ty) → IsKnown Δ a → HasOne (of_core Δ Γ a s)) → (b : Outcome) × Has procs (tested at p Δ Γ a s) b
  test_total at p Γ t (Some a) s k (for_one h) core = tested_as_total (verdict p a) Γ a s (stood t a k h) core
  test_total at p Γ t None s k (for_none n) core = (_, gives)

  content_facts : (at : ℕ) (t : Ty) (a : Option Ty) → IsKnown Δ t → StandsFor Δ t a → Facts (content_of at Δ a)
  content_facts at t (Some (element m u)) k (for_one h) = (refl, stood t (element m u) k h)
  content_facts at t (Some (any_element u)) k (for_one h) = (refl, stood t (any_element u) k h)
  content_facts at t a k h = tt

  pub core_total : (s : Core) → IsSpelled procs s → (Γ : Context) (t : Ty) → AllKnown Δ Γ → IsKnown Δ t → HasOne (of_core Δ Γ t s)
  core_total (skip at) c Γ t v h = (typed t Δ, of_skip, (refl, h))
  core_total (nothing at) c Γ t v h = (typed t Δ, of_nothing, (refl, h))
  core_total (both at s r) c Γ t v h =
      let a = core_total s c.0 Γ t v h in
      let b = behind_total a.0 (λ u Δ'. of_core Δ' Γ u r) a.2 (λ u k. core_total r c.1 Γ u v k) in
      (b.0, of_both a.1 b.1, b.2)
  core_total (choice at e s r) c Γ t v h =
      let q = value_total Γ e c.0 v in
      let a = checks_total (atom kind.Bool) (not_bool (place_of e)) q.0 tt q.2 in
      let b = behind_total a.0 (λ _ Δ'. of_core Δ' Γ t s) a.2 (λ u k. core_total s c.1 Γ t v h) in
      let d = behind_total b.0 (λ _ Δ'. of_core Δ' Γ t r) b.2 (λ u k. core_total r c.2 Γ t v h) in
      has_core Γ t (choice at e s r) _ v h (of_choice q.1 a.1 b.1 d.1 refl)
  core_total (binding at x q s) c Γ t v h =
      let a = value_total Γ q c.0 v in
      let b = behind_total a.0 (λ u Δ'. of_core Δ' ((x, u) ∷ Γ) t s) a.2 (λ u k. core_total s c.1 ((x, u) ∷ Γ) t (below_bound (length Δ) Γ x u v k) h) in
      (b.0, of_binding a.1 b.1, b.2)
  core_total (snapshot at x s) c Γ t v h = let a = core_total s c ((x, t) ∷ Γ) t (below_bound (length Δ) Γ x t v h) h in (a.0, of_snapshot a.1, a.2)
  core_total (insert at q) c Γ t v h =
      let a = checks_total empty (not_empty at.from) (typed t Δ) tt (refl, h) in
      let b = behind_total a.0 (λ _ Δ'. of_value Δ' Γ q) a.2 (λ u k. value_total Γ q c v) in
      (b.0, of_insert a.1 b.1, b.2)
  core_total (delete at) c Γ t v h = (typed empty Δ, of_delete, (refl, tt))
  core_total (rename at n) c Γ t v h = let a = stands_total Δ good t h in has_core Γ t (rename at n) _ v h (of_rename a.1 refl)
  core_total (test at p s) c Γ t v h =
      let a = stands_total Δ good t h in
      let b = test_total at.from p Γ t a.0 s h a.1 (λ w k. core_total s c Γ w v k) in
      has_core Γ t (test at p s) _ v h (of_test a.1 b.1 refl)
  core_total (children at s) c Γ t v h =
      let a = stands_total Δ good t h in
      let b = behind_total (content_of at.from Δ a.0) (λ u Δ'. of_core Δ' Γ u s) (content_facts at.from t a.0 h a.1) (λ u k. core_total s c Γ u v k) in
      has_core Γ t (children at s) _ v h (of_children a.1 b.1 refl)
  core_total (left at s) c Γ t v h = let a = core_total s c Γ empty v tt in has_core Γ t (left at s) _ v h (of_left a.1 refl)
  core_total (right at s) c Γ t v h = let a = core_total s c Γ empty v tt in has_core Γ t (right at s) _ v h (of_right a.1 refl)
  core_total (iter at s) c Γ t v h = let a = map_at at.from Γ v s (λ a k. core_total s c Γ a v k) (most (rank Δ good) t) t (omega arith) h in (a.0, of_iter a.1, a.2)
  core_total (call at p args) c Γ t v h = call_total Γ t at p args v h c.0 c.1
