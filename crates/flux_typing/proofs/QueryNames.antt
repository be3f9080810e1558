-- What holds of the names and the labels of the types of variables, of a query and of bodies holds
-- of those of the type of the query: each name is below a bound, and P holds of each label.
use Rattle.std.proofs.Common.{◌≡◌, ℕ, Bool, true, false, [], ◌∷◌, Option, Some, subst, if◌then◌else◌}
use Rattle.std.proofs.lemmas.Option.{same_Some}
use Rattle.flux_schema.specs.Ty.{Ty, empty, atom, element, any_element, seq, alt, star, named, NamesBelow}
use Rattle.flux_schema.specs.Definitions.{Definitions, body_of}
use Rattle.flux_schema.specs.Labels.{EachLabelOf}
use Rattle.flux_schema.specs.Single.{Single, of_atom as of_atom_type, of_element as of_element_type, of_any as of_any_type, of_name as of_named}
use Rattle.flux_calculus.specs.declared.ask.Var.{Var}
use Rattle.flux_calculus.specs.declared.ask.Test.{Test}
use Rattle.flux_calculus.specs.declared.ask.Test.TheVariants.{Label, AnyElement, OfText, OfBool, OfInt}
use Rattle.flux_calculus.specs.Tests.{element_matches, kind_matches}
use Rattle.flux_calculus.specs.Labels.{EachLabelOfTest, EachLabelOfQuery}
use Rattle.flux_calculus.specs.Query as query
use Rattle.flux_calculus.specs.Query.{Query, nothing, both, binding, choice, filter, each, found, same_var}
use Rattle.flux_calculus.specs.Fault.{too_large}
use Rattle.flux_calculus.specs.Typing.{Context, Outcome, typed, faulty, is_within, concluded, Treatment, Goal, of_query, of_map, returning, keeping, kept, kept_of_any, content_type, Types, of_nothing, of_one, of_several, first_of_several, others_of_several, of_element, content_of_element, of_literal, of_variable, of_no_variable, of_binding, bound_of_binding, of_choice, condition_of_choice, no_truth_of_choice, yes_of_choice, no_of_choice, of_alike, left_of_alike, right_of_alike, of_less, left_of_less, left_no_number, right_of_less, right_no_number, of_child, of_many_child, of_no_child, of_filter, from_of_filter, of_each, over_of_each, returns, body_of_each, keeps, of_empty, of_seq, left_of_seq, right_of_seq, of_alt, left_of_alt, right_of_alt, of_star, inside_of_star, of_name}

module _ (n : ℕ) (P : ℕ → Type 0) where
  abbrev pub Suits : Ty → Type 0
  Suits t = NamesBelow n t × EachLabelOf P t

  -- so it is with the type of each variable
  abbrev pub AllSuit : Context → Type 0
  AllSuit Γ = (x : Var) (t : Ty) → found Γ x ≡ Some t → Suits t

  -- and with the body of each name
  abbrev pub BodiesSuit : Definitions → Type 0
  BodiesSuit defs = (x : ℕ) (t : Ty) → body_of defs x ≡ Some t → Suits t

  suits_by : (b : Bool) (t u : Ty) (o : Option Ty) → Suits t → (o ≡ Some u → Suits u) → (if b then Some t else o) ≡ Some u → Suits u
  suits_by true t u o h f e = subst Suits (same_Some _ _ e) h
  suits_by false t u o h f e = f e

  pub suits_bound : (Γ : Context) (x : Var) (t : Ty) → AllSuit Γ → Suits t → AllSuit ((x, t) ∷ Γ)
  suits_bound Γ x t a h y u e = suits_by (same_var x y) t u (found Γ y) h (a y u) e

  pub suits_nothing : AllSuit []
  suits_nothing x t e = cc

  pub content_suits : (t : Ty) → Suits t → Suits (content_type t)
  content_suits empty h = h
  content_suits (atom k) h = (tt, tt)
  content_suits (element l t) h = (h.0, h.1.1)
  content_suits (any_element t) h = h
  content_suits (seq t u) h = (tt, tt)
  content_suits (alt t u) h = (tt, tt)
  content_suits (star t) h = (tt, tt)
  content_suits (named x) h = (tt, tt)

  stays_or_not : (b : Bool) (t : Ty) → Suits t → Suits (if b then t else empty)
  stays_or_not true t h = h
  stays_or_not false t h = (tt, tt)

  any_suits : (p : Test) (t : Ty) → EachLabelOfTest P p → Suits t → Suits (kept_of_any p t)
  any_suits (Label l) t e h = ((h.0, tt), ((e, h.1), tt))
  any_suits AnyElement t e h = h
  any_suits OfText t e h = (tt, tt)
  any_suits OfBool t e h = (tt, tt)
  any_suits OfInt t e h = (tt, tt)

  pub kept_suits : (p : Test) (t : Ty) → EachLabelOfTest P p → Suits t → Suits (kept p t)
  kept_suits p empty e h = (tt, tt)
  kept_suits p (atom k) e h = stays_or_not (kind_matches p k) (atom k) h
  kept_suits p (element l t) e h = stays_or_not (element_matches p l) (element l t) h
  kept_suits p (any_element t) e h = any_suits p t e h
  kept_suits p (seq t u) e h = (tt, tt)
  kept_suits p (alt t u) e h = (tt, tt)
  kept_suits p (star t) e h = (tt, tt)
  kept_suits p (named x) e h = (tt, tt)

module _ (defs : Definitions) (n : ℕ) (P : ℕ → Type 0) (bodies : BodiesSuit n P defs) where
  abbrev SuitIn : Treatment → Type 0
  SuitIn (returning Γ x q) = AllSuit n P Γ × EachLabelOfQuery P q
  SuitIn (keeping p) = EachLabelOfTest P p

  abbrev KnownType : Goal → Ty → Type 0
  KnownType (of_query Γ q) t = AllSuit n P Γ → EachLabelOfQuery P q → Suits n P t
  KnownType (of_map at f u) t = SuitIn f → Suits n P u → Suits n P t

  abbrev KnownOutcome : Goal → Outcome → Type 0
  KnownOutcome g (typed t) = KnownType g t
  KnownOutcome g (faulty f) = Unit {0}

  conclude_by : (g : Goal) (at : ℕ) (t : Ty) (o : Outcome) (b : Bool) → KnownType g t → (if b then typed t else faulty (too_large at)) ≡ o → KnownOutcome g o
  conclude_by g at t o true s e = let P : Outcome → Type 0 = λ p. KnownOutcome g p in subst P e s
  conclude_by g at t o false s e = let P : Outcome → Type 0 = λ p. KnownOutcome g p in subst P e tt

  conclude : (g : Goal) (at : ℕ) (t : Ty) (o : Outcome) → KnownType g t → concluded at t ≡ o → KnownOutcome g o
  conclude g at t o s e = conclude_by g at t o (is_within t) s e

  carry : (g h : Goal) (o : Outcome) → ((t : Ty) → KnownType g t → KnownType h t) → KnownOutcome g o → KnownOutcome h o
  carry g h (typed t) f s = f t s
  carry g h (faulty e) f s = tt

  pub single_suits : {t s : Ty} → Single defs t s → Suits n P t → Suits n P s
  single_suits (of_atom_type k) h = h
  single_suits (of_element_type l t) h = h
  single_suits (of_any_type t) h = h
  single_suits (of_named x e s) h = single_suits s (bodies x _ e)

  pub knows : {g : Goal} {o : Outcome} → Types defs g o → KnownOutcome g o
  knows of_nothing = λ a b. (tt, tt)
  knows (of_one {Γ} {at} {end} {q} {o} d) = carry (of_query Γ q) (of_query Γ (both at q (nothing end))) o (λ t h a b. h a b.0) (knows d)
  knows (of_several {Γ} {at} {next} {q} {r} {s} {t} {u} {o} d e c) =
      let f = knows d in
      let h = knows e in
      conclude (of_query Γ (both at q (both next r s))) at.from (seq t u) o (λ a b. let x = f a b.0 in let y = h a b.1 in ((x.0, y.0), (x.1, y.1))) c
  knows (first_of_several d) = tt
  knows (others_of_several d e) = tt
  knows (of_element {Γ} {at} {n = l} {q} {t} {o} d c) =
      let f = knows d in
      conclude (of_query Γ (query.element at l q)) at.from (element l t) o (λ a b. let x = f a b.1 in (x.0, (b.0, x.1))) c
  knows (content_of_element d) = tt
  knows (of_literal x) = λ a b. (tt, tt)
  knows (of_variable {Γ} {at} {x} {t} e) = λ a b. a x t e
  knows (of_no_variable e) = tt
  knows (of_binding {Γ} {at} {x} {q} {r} {t} {o} d e) =
      let f = knows d in
      carry (of_query ((x, t) ∷ Γ) r) (of_query Γ (binding at x q r)) o (λ u h a b. h (suits_bound n P Γ x t a (f a b.0)) b.1) (knows e)
  knows (bound_of_binding d) = tt
  knows (of_choice {Γ} {at} {c} {q} {r} {t} {u} {w} {o} d i e h k) =
      let f = knows e in
      let l = knows h in
      conclude (of_query Γ (choice at c q r)) at.from (alt u w) o (λ a b. let x = f a b.1 in let y = l a b.2 in ((x.0, y.0), (x.1, y.1))) k
  knows (condition_of_choice d) = tt
  knows (no_truth_of_choice v d m k) = tt
  knows (yes_of_choice d i e) = tt
  knows (no_of_choice d i e h) = tt
  knows (of_alike d e) = λ a b. (tt, tt)
  knows (left_of_alike d) = tt
  knows (right_of_alike d e) = tt
  knows (of_less d i e h) = λ a b. (tt, tt)
  knows (left_of_less d) = tt
  knows (left_no_number v d m k) = tt
  knows (right_of_less d i e) = tt
  knows (right_no_number v d i e m k) = tt
  knows (of_child {Γ} {at} {x} {t} {s} e h) = λ a b. content_suits n P s (single_suits h (a x t e))
  knows (of_many_child e k) = tt
  knows (of_no_child e) = tt
  knows (of_filter {Γ} {at} {q} {p} {t} {o} d e) =
      let f = knows d in
      carry (of_map at.from (keeping p) t) (of_query Γ (filter at q p)) o (λ u h a b. h b.1 (f a b.0)) (knows e)
  knows (from_of_filter d) = tt
  knows (of_each {Γ} {at} {x} {q} {r} {t} {o} d e) =
      let f = knows d in
      carry (of_map at.from (returning Γ x r) t) (of_query Γ (each at x q r)) o (λ u h a b. h (a, b.1) (f a b.0)) (knows e)
  knows (over_of_each d) = tt
  knows (returns {Γ} {at} {x} {q} {a} {t} {o} i d c) =
      let f = knows d in
      conclude (of_map at (returning Γ x q) a) at t o (λ k h. f (suits_bound n P Γ x a k.0 h) k.1) c
  knows (body_of_each i d) = tt
  knows (keeps {at} {p} {a} {o} i c) = conclude (of_map at (keeping p) a) at (kept p a) o (λ k h. kept_suits n P p a k h) c
  knows of_empty = λ k h. (tt, tt)
  knows (of_seq {at} {g} {t} {u} {t'} {u'} {o} d e c) =
      let f = knows d in
      let h = knows e in
      conclude (of_map at g (seq t u)) at (seq t' u') o (λ k w. let x = f k (w.0.0, w.1.0) in let y = h k (w.0.1, w.1.1) in ((x.0, y.0), (x.1, y.1))) c
  knows (left_of_seq d) = tt
  knows (right_of_seq d e) = tt
  knows (of_alt {at} {g} {t} {u} {t'} {u'} {o} d e c) =
      let f = knows d in
      let h = knows e in
      conclude (of_map at g (alt t u)) at (alt t' u') o (λ k w. let x = f k (w.0.0, w.1.0) in let y = h k (w.0.1, w.1.1) in ((x.0, y.0), (x.1, y.1))) c
  knows (left_of_alt d) = tt
  knows (right_of_alt d e) = tt
  knows (of_star {at} {g} {t} {t'} {o} d c) = let f = knows d in conclude (of_map at g (star t)) at (star t') o f c
  knows (inside_of_star d) = tt
  knows (of_name {at} {x} {g} {t} {o} e d) = carry (of_map at g t) (of_map at g (named x)) o (λ u h k w. h k (bodies x t e)) (knows d)

-- ---- names alone

abbrev pub Any : ℕ → Type 0
Any l = Unit {0}

pub any_type : (t : Ty) → EachLabelOf Any t
any_type empty = tt
any_type (atom k) = tt
any_type (element l t) = (tt, any_type t)
any_type (any_element t) = any_type t
any_type (seq t u) = (any_type t, any_type u)
any_type (alt t u) = (any_type t, any_type u)
any_type (star t) = any_type t
any_type (named x) = tt

pub any_test : (p : Test) → EachLabelOfTest Any p
any_test (Label l) = tt
any_test AnyElement = tt
any_test OfText = tt
any_test OfBool = tt
any_test OfInt = tt

pub any_query : (q : Query) → EachLabelOfQuery Any q
any_query (nothing at) = tt
any_query (both at q r) = (any_query q, any_query r)
any_query (query.element at l q) = (tt, any_query q)
any_query (query.literal at x) = tt
any_query (query.variable at x) = tt
any_query (binding at x q r) = (any_query q, any_query r)
any_query (choice at c q r) = (any_query c, any_query q, any_query r)
any_query (query.alike at q r) = (any_query q, any_query r)
any_query (query.less at q r) = (any_query q, any_query r)
any_query (query.child at x) = tt
any_query (filter at q p) = (any_query q, any_test p)
any_query (each at x q r) = (any_query q, any_query r)

-- the type of each variable names what is below the bound
abbrev pub AllBelow : ℕ → Context → Type 0
AllBelow n Γ = (x : Var) (t : Ty) → found Γ x ≡ Some t → NamesBelow n t

pub below_nothing : (n : ℕ) → AllBelow n []
below_nothing n x t e = cc

pub below_bound : (n : ℕ) (Γ : Context) (x : Var) (t : Ty) → AllBelow n Γ → NamesBelow n t → AllBelow n ((x, t) ∷ Γ)
below_bound n Γ x t a h y u e = (suits_bound n Any Γ x t (λ y u e. (a y u e, any_type u)) (h, any_type t) y u e).0

pub content_below : (n : ℕ) (t : Ty) → NamesBelow n t → NamesBelow n (content_type t)
content_below n t h = (content_suits n Any t (h, any_type t)).0

pub single_below : (defs : Definitions) (n : ℕ) → ((x : ℕ) (t : Ty) → body_of defs x ≡ Some t → NamesBelow n t) → {t s : Ty} → Single defs t s → NamesBelow n t → NamesBelow n s
single_below defs n bodies {t} s h = (single_suits defs n Any (λ x t e. (bodies x t e, any_type t)) s (h, any_type t)).0

pub below : (defs : Definitions) (n : ℕ) → ((x : ℕ) (t : Ty) → body_of defs x ≡ Some t → NamesBelow n t) → (Γ : Context) (q : Query) (t : Ty) → AllBelow n Γ → Types defs (of_query Γ q) (typed t) → NamesBelow n t
below defs n bodies Γ q t a d = (knows defs n Any (λ x t e. (bodies x t e, any_type t)) d (λ x t e. (a x t e, any_type t)) (any_query q)).0
