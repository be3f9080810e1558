-- A type that a query has is known, where those of its variables are; and what holds of each label
-- of theirs, of the query and of the definitions holds of each of its labels.
use Rattle.std.proofs.Common.{◌≡◌, ℕ, Bool, true, false, ◌∷◌, Option, Some, sym, subst, if◌then◌else◌}
use Rattle.std.proofs.lemmas.Option.{same_Some}
use Rattle.flux_schema.specs.Ty.{Ty, empty, atom, element, any_element, seq, alt, star, named, IsWithinLimits}
use Rattle.flux_schema.specs.Definitions.{Definitions, IsKnown, AreKnown}
use Rattle.flux_schema.specs.Labels.{EachLabelOf, EachLabelOfBodies, Lacks}
use Rattle.flux_schema.specs.Single.{Single, of_atom as of_atom_type, of_element as of_element_type, of_any as of_any_type, of_name as of_named}
use Rattle.flux_types.specs.declared.ty.Ty.{Ty as Tree}
use Rattle.flux_types.specs.Read.{ty_of}
use Rattle.flux_calculus.specs.declared.ask.Var.{Var}
use Rattle.flux_calculus.specs.declared.ask.Test.{Test}
use Rattle.flux_calculus.specs.declared.ask.Test.TheVariants.{Label, AnyElement, OfText, OfBool, OfInt}
use Rattle.flux_calculus.specs.Tests.{element_matches, kind_matches}
use Rattle.flux_calculus.specs.Labels.{EachLabelOfTest, EachLabelOfQuery}
use Rattle.flux_calculus.specs.Query as query
use Rattle.flux_calculus.specs.Query.{Query, nothing, both, binding, choice, filter, each, found, same_var}
use Rattle.flux_calculus.specs.Fault.{too_large}
use Rattle.flux_calculus.specs.Typing.{Context, Outcome, typed, faulty, is_within, concluded, Treatment, Goal, of_query, of_map, returning, keeping, kept, kept_of_any, content_type, Types, of_nothing, of_one, of_several, first_of_several, others_of_several, of_element, content_of_element, of_literal, of_variable, of_no_variable, of_binding, bound_of_binding, of_choice, condition_of_choice, no_truth_of_choice, yes_of_choice, no_of_choice, of_alike, left_of_alike, right_of_alike, of_less, left_of_less, left_no_number, right_of_less, right_no_number, of_child, of_many_child, of_no_child, of_filter, from_of_filter, of_each, over_of_each, returns, body_of_each, keeps, of_empty, of_seq, left_of_seq, right_of_seq, of_alt, left_of_alt, right_of_alt, of_star, inside_of_star, of_name}
use Rattle.flux_core.specs.Faults.{IsUsable, AreUsable}
use Rattle.flux_querytype.specs.Answers.{IsReady, QueryLacks}

module _ (defs : Definitions) (known : AreKnown defs) (P : ℕ → Type 0) (bodies : EachLabelOfBodies P defs) where
  -- the type is known, and P holds of its labels
  abbrev Suits : Ty → Type 0
  Suits t = IsKnown defs t × EachLabelOf P t

  -- so it is with the type of each variable
  abbrev AllSuit : Context → Type 0
  AllSuit Γ = (x : Var) (t : Ty) → found Γ x ≡ Some t → Suits t

  abbrev SuitIn : Treatment → Type 0
  SuitIn (returning Γ x q) = AllSuit Γ × EachLabelOfQuery P q
  SuitIn (keeping p) = EachLabelOfTest P p

  abbrev KnownType : Goal → Ty → Type 0
  KnownType (of_query Γ q) t = AllSuit Γ → EachLabelOfQuery P q → Suits t
  KnownType (of_map at f u) t = SuitIn f → Suits u → Suits t

  abbrev KnownOutcome : Goal → Outcome → Type 0
  KnownOutcome g (typed t) = KnownType g t
  KnownOutcome g (faulty f) = Unit {0}

  conclude_by : (g : Goal) (at : ℕ) (t : Ty) (o : Outcome) (b : Bool) → KnownType g t → (if b then typed t else faulty (too_large at)) ≡ o → KnownOutcome g o
  conclude_by g at t o true s e = let P : Outcome → Type 0 = λ p. KnownOutcome g p in subst P e s
  conclude_by g at t o false s e = let P : Outcome → Type 0 = λ p. KnownOutcome g p in subst P e tt

  conclude : (g : Goal) (at : ℕ) (t : Ty) (o : Outcome) → KnownType g t → concluded at t ≡ o → KnownOutcome g o
  conclude g at t o s e = conclude_by g at t o (is_within t) s e

  carry : (g h : Goal) (o : Outcome) → ((t : Ty) → KnownType g t → KnownType h t) → KnownOutcome g o → KnownOutcome h o
  carry g h (typed t) f s = f t s
  carry g h (faulty e) f s = tt

  single_suits : {t s : Ty} → Single defs t s → Suits t → Suits s
  single_suits (of_atom_type k) h = h
  single_suits (of_element_type n t) h = h
  single_suits (of_any_type t) h = h
  single_suits (of_named x e s) h = single_suits s (known x _ e, bodies x _ e)

  content_suits : (s : Ty) → Suits s → Suits (content_type s)
  content_suits empty h = h
  content_suits (atom k) h = h
  content_suits (element n t) h = (h.0, h.1.1)
  content_suits (any_element t) h = h
  content_suits (seq t u) h = (tt, tt)
  content_suits (alt t u) h = (tt, tt)
  content_suits (star t) h = (tt, tt)
  content_suits (named x) h = (tt, tt)

  bound_by : (b : Bool) (t u : Ty) (o : Option Ty) → Suits t → (o ≡ Some u → Suits u) → (if b then Some t else o) ≡ Some u → Suits u
  bound_by true t u o h f e = subst Suits (same_Some _ _ e) h
  bound_by false t u o h f e = f e

  suits_bound : (Γ : Context) (x : Var) (t : Ty) → AllSuit Γ → Suits t → AllSuit ((x, t) ∷ Γ)
  suits_bound Γ x t a h y u e = bound_by (same_var x y) t u (found Γ y) h (a y u) e

  stays_or_not : (b : Bool) (t : Ty) → Suits t → Suits (if b then t else empty)
  stays_or_not true t h = h
  stays_or_not false t h = (tt, tt)

  any_suits : (p : Test) (t : Ty) → EachLabelOfTest P p → Suits t → Suits (kept_of_any p t)
  any_suits (Label n) t l h = ((h.0, tt), ((l, h.1), tt))
  any_suits AnyElement t l h = h
  any_suits OfText t l h = (tt, tt)
  any_suits OfBool t l h = (tt, tt)
  any_suits OfInt t l h = (tt, tt)

  kept_suits : (p : Test) (t : Ty) → EachLabelOfTest P p → Suits t → Suits (kept p t)
  kept_suits p empty l h = (tt, tt)
  kept_suits p (atom k) l h = stays_or_not (kind_matches p k) (atom k) h
  kept_suits p (element n t) l h = stays_or_not (element_matches p n) (element n t) h
  kept_suits p (any_element t) l h = any_suits p t l h
  kept_suits p (seq t u) l h = (tt, tt)
  kept_suits p (alt t u) l h = (tt, tt)
  kept_suits p (star t) l h = (tt, tt)
  kept_suits p (named x) l h = (tt, tt)

  knows : {g : Goal} {o : Outcome} → Types defs g o → KnownOutcome g o
  knows of_nothing = λ a b. (tt, tt)
  knows (of_one {Γ} {at} {end} {q} {o} d) = carry (of_query Γ q) (of_query Γ (both at q (nothing end))) o (λ t h a b. h a b.0) (knows d)
  knows (of_several {Γ} {at} {next} {q} {r} {s} {t} {u} {o} d e c) =
      let f = knows d in
      let h = knows e in
      conclude (of_query Γ (both at q (both next r s))) at.from (seq t u) o (λ a b. let x = f a b.0 in let y = h a b.1 in ((x.0, y.0), (x.1, y.1))) c
  knows (first_of_several d) = tt
  knows (others_of_several d e) = tt
  knows (of_element {Γ} {at} {n} {q} {t} {o} d c) =
      let f = knows d in
      conclude (of_query Γ (query.element at n q)) at.from (element n t) o (λ a b. let x = f a b.1 in (x.0, (b.0, x.1))) c
  knows (content_of_element d) = tt
  knows (of_literal x) = λ a b. (tt, tt)
  knows (of_variable {Γ} {at} {x} {t} e) = λ a b. a x t e
  knows (of_no_variable e) = tt
  knows (of_binding {Γ} {at} {x} {q} {r} {t} {o} d e) =
      let f = knows d in
      carry (of_query ((x, t) ∷ Γ) r) (of_query Γ (binding at x q r)) o (λ u h a b. h (suits_bound Γ x t a (f a b.0)) b.1) (knows e)
  knows (bound_of_binding d) = tt
  knows (of_choice {Γ} {at} {c} {q} {r} {t} {u} {w} {o} d i e h k) =
      let f = knows e in
      let l = knows h in
      conclude (of_query Γ (choice at c q r)) at.from (alt u w) o (λ a b. let x = f a b.1 in let y = l a b.2 in ((x.0, y.0), (x.1, y.1))) k
  knows (condition_of_choice d) = tt
  knows (no_truth_of_choice v d m n) = tt
  knows (yes_of_choice d i e) = tt
  knows (no_of_choice d i e h) = tt
  knows (of_alike d e) = λ a b. (tt, tt)
  knows (left_of_alike d) = tt
  knows (right_of_alike d e) = tt
  knows (of_less d i e h) = λ a b. (tt, tt)
  knows (left_of_less d) = tt
  knows (left_no_number v d m n) = tt
  knows (right_of_less d i e) = tt
  knows (right_no_number v d i e m n) = tt
  knows (of_child {Γ} {at} {x} {t} {s} e h) = λ a b. content_suits s (single_suits h (a x t e))
  knows (of_many_child e n) = tt
  knows (of_no_child e) = tt
  knows (of_filter {Γ} {at} {q} {p} {t} {o} d e) =
      let f = knows d in
      carry (of_map at.from (keeping p) t) (of_query Γ (filter at q p)) o (λ u h a b. h b.1 (f a b.0)) (knows e)
  knows (from_of_filter d) = tt
  knows (of_each {Γ} {at} {x} {q} {r} {t} {o} d e) =
      let f = knows d in
      carry (of_map at.from (returning Γ x r) t) (of_query Γ (each at x q r)) o (λ u h a b. h (a, b.1) (f a b.0)) (knows e)
  knows (over_of_each d) = tt
  knows (returns {Γ} {at} {x} {q} {a} {t} {o} i d c) =
      let f = knows d in
      conclude (of_map at (returning Γ x q) a) at t o (λ k h. f (suits_bound Γ x a k.0 h) k.1) c
  knows (body_of_each i d) = tt
  knows (keeps {at} {p} {a} {o} i c) = conclude (of_map at (keeping p) a) at (kept p a) o (λ k h. kept_suits p a k h) c
  knows of_empty = λ k h. (tt, tt)
  knows (of_seq {at} {g} {t} {u} {t'} {u'} {o} d e c) =
      let f = knows d in
      let h = knows e in
      conclude (of_map at g (seq t u)) at (seq t' u') o (λ k w. let x = f k (w.0.0, w.1.0) in let y = h k (w.0.1, w.1.1) in ((x.0, y.0), (x.1, y.1))) c
  knows (left_of_seq d) = tt
  knows (right_of_seq d e) = tt
  knows (of_alt {at} {g} {t} {u} {t'} {u'} {o} d e c) =
      let f = knows d in
      let h = knows e in
      conclude (of_map at g (alt t u)) at (alt t' u') o (λ k w. let x = f k (w.0.0, w.1.0) in let y = h k (w.0.1, w.1.1) in ((x.0, y.0), (x.1, y.1))) c
  knows (left_of_alt d) = tt
  knows (right_of_alt d e) = tt
  knows (of_star {at} {g} {t} {t'} {o} d c) = let f = knows d in conclude (of_map at g (star t)) at (star t') o f c
  knows (inside_of_star d) = tt
  knows (of_name {at} {x} {g} {t} {o} e d) = carry (of_map at g t) (of_map at g (named x)) o (λ u h k w. h k (known x t e, bodies x t e)) (knows d)

-- ---- scopes: definitions, and a label that stands in none of them

abbrev pub Scope : Type 0
Scope = Definitions × ℕ

-- the variables are ready in a scope
abbrev pub Ready : Scope → Context → Type 0
Ready s Γ = IsReady s.0 s.1 Γ

-- a type can be used in a scope, and lacks its label
abbrev pub Usable : Scope → Ty → Type 0
Usable s t = IsUsable s.0 t × Lacks s.1 t

-- a type within the limits that a query has can be used
pub typed_usable : (s : Scope) (Γ : Context) (q : Query) (t : Ty) → Ready s Γ → QueryLacks s.1 q → Types s.0 (of_query Γ q) (typed t) → IsWithinLimits t → Usable s t
typed_usable s Γ q t ready lacks d limits =
    let known = knows s.0 ready.kept.good.known (λ m. ¬ (m ≡ s.1)) ready.lacks d (λ x u e. ((ready.usable x u e).known, ready.gamma x u e)) lacks in
    (record { known = known.0; limits = limits }, known.1)

usable_by : (s : Scope) (b : Bool) (t u : Ty) (o : Option Ty) → Usable s t → (o ≡ Some u → Usable s u) → (if b then Some t else o) ≡ Some u → Usable s u
usable_by s true t u o h f e = let P : Ty → Type 0 = λ w. Usable s w in subst P (same_Some _ _ e) h
usable_by s false t u o h f e = f e

bound_usable : (s : Scope) (Γ : Context) (x : Var) (t : Ty) → Ready s Γ → Usable s t → (y : Var) (u : Ty) → found ((x, t) ∷ Γ) y ≡ Some u → Usable s u
bound_usable s Γ x t ready h y u f = usable_by s (same_var x y) t u (found Γ y) h (λ e. (ready.usable y u e, ready.gamma y u e)) f

-- with a variable bound to a type that can be used
pub ready_bound : (s : Scope) (Γ Δ : Context) (x : Var) (t : Ty) → Δ ≡ (x, t) ∷ Γ → Ready s Γ → Usable s t → Ready s Δ
ready_bound s Γ Δ x t e ready h =
    let P : Context → Type 0 = λ Δ. Ready s Δ in
    let usable = bound_usable s Γ x t ready h in
    subst P (sym e) (record { kept = ready.kept; lacks = ready.lacks; usable = λ y u f. (usable y u f).0; gamma = λ y u f. (usable y u f).1 })

pub ready_same : (s s' : Scope) (Γ Γ' : Context) → s' ≡ s → Γ' ≡ Γ → Ready s Γ → Ready s' Γ'
ready_same s s' Γ Γ' e f ready =
    let P : Scope → Type 0 = λ s. Ready s Γ in
    let Q : Context → Type 0 = λ Γ. Ready s' Γ in
    subst Q (sym f) (subst P (sym e) ready)

-- the types of the variables under the same definitions
pub context_same : (defs defs' : Definitions) (Γ : Context) → defs' ≡ defs → AreUsable defs Γ → AreUsable defs' Γ
context_same defs defs' Γ e h = let P : Definitions → Type 0 = λ d. AreUsable d Γ in subst P (sym e) h

pub usable_same : (s s' : Scope) (t : Ty) → s' ≡ s → Usable s t → Usable s' t
usable_same s s' t e h = let P : Scope → Type 0 = λ s. Usable s t in subst P (sym e) h

-- a type that is the same
pub usable_owned : (s s' : Scope) (m t : Tree) → m ≡ t → s' ≡ s → Usable s (ty_of t) → Usable s' (ty_of m)
usable_owned s s' m t e f h = let P : Tree → Type 0 = λ m. Usable s' (ty_of m) in subst P (sym e) (usable_same s s' (ty_of t) f h)

-- under the same definitions alone
pub usable_under : (defs defs' : Definitions) (t : Ty) → defs' ≡ defs → IsUsable defs t → IsUsable defs' t
usable_under defs defs' t e h = let P : Definitions → Type 0 = λ d. IsUsable d t in subst P (sym e) h

-- a query lacks the label of the same scope
pub lacks_same : (s s' : Scope) (q : Query) → s' ≡ s → QueryLacks s.1 q → QueryLacks s'.1 q
lacks_same s s' q e h = let P : Scope → Type 0 = λ s. QueryLacks s.1 q in subst P (sym e) h
