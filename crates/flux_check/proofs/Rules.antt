-- The rules of update typing one by one, for outcomes with the same definitions behind them.
use Rattle.std.proofs.Common.{◌≡◌, ◌∙◌, ℕ, Bool, true, false, ◌∷◌, Option, Some, None, refl, sym, ap, subst, if◌then◌else◌}
use Rattle.flux_atom.specs.declared.atom.AtomKind.TheVariants as kind
use Rattle.flux_trees.specs.Hedge.{Plain}
use Rattle.flux_schema.specs.Ty.{Ty, empty, atom, element, any_element, seq, alt, star, named, IsWithinLimits}
use Rattle.flux_schema.specs.Definitions.{Definitions}
use Rattle.flux_schema.specs.Member.{Member, Included}
use Rattle.flux_calculus.specs.declared.ask.Span.{Span}
use Rattle.flux_calculus.specs.declared.ask.Test.{Test}
use Rattle.flux_calculus.specs.declared.ask.Var.{Var}
use Rattle.flux_calculus.specs.Fault.{Fault, too_large, not_single, not_element, not_bool, not_empty}
use Rattle.flux_calculus.specs.Query.{Query, place_of}
use Rattle.flux_calculus.specs.Typing.{Context, Outcome, typed, faulty, is_within, concluded, content_type, Types, of_query}
use Rattle.flux_calculus.specs.Core.{Core, both, choice, binding, snapshot, insert, rename, test, children, left, right, Procs}
use Rattle.flux_typing.specs.Update as update
use Rattle.flux_typing.specs.Update.{with_definitions, fits, misses, was_faulty, StandsFor, Arguments, renamed, content_of, Verdict, verdict, passes, fails, undecided, tested_as, or_stays, of_core, behind, Has, stops, goes_on, gives, has_value, of_skip, of_nothing, of_both, of_choice, of_binding, of_snapshot, of_insert, of_delete, of_rename, of_test, of_children, of_left, of_right, of_iter, of_call}
use Rattle.flux_core.proofs.Replies.{concluded_within}
use Rattle.flux_querytype.specs.Answers.{IsTruth}
use Rattle.flux_check.specs.Answers.{Comes}
use Rattle.flux_check.specs.Ones.{element_type, IsNoElement}

with_concluded : (Δ : Definitions) (at : ℕ) (t : Ty) → update.concluded at t Δ ≡ with_definitions Δ (concluded at t)
with_concluded Δ at t = by (is_within t)
  where
    by : (b : Bool) → (if b then update.typed t Δ else update.faulty (too_large at)) ≡ with_definitions Δ (if b then typed t else faulty (too_large at))
    by true = refl
    by false = refl

-- a conclusion, with definitions behind it
pub concludes : (Δ : Definitions) (at : ℕ) (t : Ty) (o : Outcome) → concluded at t ≡ o → update.concluded at t Δ ≡ with_definitions Δ o
concludes Δ at t o e = with_concluded Δ at t ∙ ap (with_definitions Δ) e

renamed_no : (Δ : Definitions) (at : ℕ) (n : ℕ) (a : Ty) → IsNoElement a → renamed at n Δ (Some a) ≡ update.faulty (not_element at)
renamed_no Δ at n empty h = refl
renamed_no Δ at n (atom k) h = refl
renamed_no Δ at n (element m u) h = absurd h
renamed_no Δ at n (any_element u) h = absurd h
renamed_no Δ at n (seq u w) h = refl
renamed_no Δ at n (alt u w) h = refl
renamed_no Δ at n (star u) h = refl
renamed_no Δ at n (named x) h = refl

renamed_type : (Δ : Definitions) (at : ℕ) (n : ℕ) (l : Option ℕ) (u : Ty) → renamed at n Δ (Some (element_type l u)) ≡ update.concluded at (element n u) Δ
renamed_type Δ at n (Some m) u = refl
renamed_type Δ at n None u = refl

content_no : (Δ : Definitions) (at : ℕ) (a : Ty) → IsNoElement a → content_of at Δ (Some a) ≡ update.faulty (not_element at)
content_no Δ at empty h = refl
content_no Δ at (atom k) h = refl
content_no Δ at (element m u) h = absurd h
content_no Δ at (any_element u) h = absurd h
content_no Δ at (seq u w) h = refl
content_no Δ at (alt u w) h = refl
content_no Δ at (star u) h = refl
content_no Δ at (named x) h = refl

module _ {procs : Procs} {Δ : Definitions} {Γ : Context} {t : Ty} where
  -- ---- choices

  pub condition_faulty : {c : Query} {f : Fault} → Types Δ (of_query Γ c) (faulty f) → (at : Span) (s r : Core) → Comes procs Δ Γ t (choice at c s r) (faulty f)
  condition_faulty d at s r = of_choice (has_value d) was_faulty stops stops refl

  pub condition_untrue : {c : Query} {u : Ty} (v : Plain) → Types Δ (of_query Γ c) (typed u) → Member Δ v u → ¬ (Member Δ v (atom kind.Bool)) → (at : Span) (s r : Core) → Comes procs Δ Γ t (choice at c s r) (faulty (not_bool (place_of c) u (atom kind.Bool)))
  condition_untrue v d m n at s r = of_choice (has_value d) (misses v m n) stops stops refl

  pub yes_faulty : {at : Span} {c : Query} {s r : Core} {f : Fault} → IsTruth Δ Γ c → Comes procs Δ Γ t s (faulty f) → Comes procs Δ Γ t (choice at c s r) (faulty f)
  yes_faulty b x = of_choice (has_value b.1) (fits b.2) (goes_on x) stops refl

  pub no_faulty : {at : Span} {c : Query} {s r : Core} {u : Ty} {f : Fault} → IsTruth Δ Γ c → Comes procs Δ Γ t s (typed u) → Comes procs Δ Γ t r (faulty f) → Comes procs Δ Γ t (choice at c s r) (faulty f)
  no_faulty b x y = of_choice (has_value b.1) (fits b.2) (goes_on x) (goes_on y) refl

  pub chosen : {at : Span} {c : Query} {s r : Core} {u w : Ty} (o : Outcome) → IsTruth Δ Γ c → Comes procs Δ Γ t s (typed u) → Comes procs Δ Γ t r (typed w) → concluded at.from (alt u w) ≡ o → Comes procs Δ Γ t (choice at c s r) o
  chosen {at} {u = u} {w} o b x y e = of_choice (has_value b.1) (fits b.2) (goes_on x) (goes_on y) (concludes Δ at.from (alt u w) o e)

  -- ---- variables

  pub bound_faulty : {at : Span} {x : Var} {q : Query} {s : Core} {f : Fault} → Types Δ (of_query Γ q) (faulty f) → Comes procs Δ Γ t (binding at x q s) (faulty f)
  bound_faulty d = of_binding (has_value d) stops

  pub bound : {at : Span} {x : Var} {q : Query} {s : Core} {u : Ty} (o : Outcome) → Types Δ (of_query Γ q) (typed u) → Comes procs Δ ((x, u) ∷ Γ) t s o → Comes procs Δ Γ t (binding at x q s) o
  bound o d x = of_binding (has_value d) (goes_on x)

  pub noted : {at : Span} {x : Var} {s : Core} (o : Outcome) → Comes procs Δ ((x, t) ∷ Γ) t s o → Comes procs Δ Γ t (snapshot at x s) o
  noted o x = of_snapshot x

  -- ---- insertions, renamings

  pub not_inserted : {at : Span} {q : Query} (v : Plain) → Member Δ v t → ¬ (Member Δ v empty) → Comes procs Δ Γ t (insert at q) (faulty (not_empty at.from t empty))
  not_inserted v m n = of_insert (misses v m n) stops

  pub inserted : {at : Span} {q : Query} {o : Outcome} → Included Δ t empty → Types Δ (of_query Γ q) o → Comes procs Δ Γ t (insert at q) o
  inserted i d = of_insert (fits i) (goes_on (has_value d))

  pub rename_many : {at : Span} {n : ℕ} → StandsFor Δ t None → Comes procs Δ Γ t (rename at n) (faulty (not_single at.from))
  rename_many h = of_rename h refl

  pub rename_atom : {at : Span} {n : ℕ} (a : Ty) → StandsFor Δ t (Some a) → IsNoElement a → Comes procs Δ Γ t (rename at n) (faulty (not_element at.from))
  rename_atom {at} {n} a h i = of_rename h (renamed_no Δ at.from n a i)

  pub rename_element : {at : Span} {n : ℕ} (l : Option ℕ) (a u : Ty) (o : Outcome) → StandsFor Δ t (Some a) → a ≡ element_type l u → concluded at.from (element n u) ≡ o → Comes procs Δ Γ t (rename at n) o
  rename_element {at} {n} l a u o h i e = of_rename h (ap (λ a. renamed at.from n Δ (Some a)) i ∙ renamed_type Δ at.from n l u ∙ concludes Δ at.from (element n u) o e)

  -- ---- tests

  test_by : {at : Span} {p : Test} {s : Core} {a : Ty} {b o : update.Outcome} (w : Verdict) → verdict p a ≡ w → StandsFor Δ t (Some a) → Has procs (tested_as w Δ Γ a s) b → update.made at.from (or_stays w a) b ≡ o → Has procs (of_core Δ Γ t (test at p s)) o
  test_by {at} {p} {s} {a} {b} {o} w e h x k = of_test h (subst (λ v. Has procs (tested_as v Δ Γ a s) b) (sym e) x) (subst (λ v. update.made at.from (or_stays v a) b ≡ o) (sym e) k)

  pub test_many : {at : Span} {p : Test} {s : Core} → StandsFor Δ t None → Comes procs Δ Γ t (test at p s) (faulty (not_single at.from))
  test_many h = of_test h gives refl

  pub test_all_faulty : {at : Span} {p : Test} {s : Core} {a : Ty} {f : Fault} → verdict p a ≡ passes → StandsFor Δ t (Some a) → Comes procs Δ Γ a s (faulty f) → Comes procs Δ Γ t (test at p s) (faulty f)
  test_all_faulty e h x = test_by passes e h x refl

  pub test_all : {at : Span} {p : Test} {s : Core} {a u : Ty} → verdict p a ≡ passes → StandsFor Δ t (Some a) → IsWithinLimits u → Comes procs Δ Γ a s (typed u) → Comes procs Δ Γ t (test at p s) (typed u)
  test_all {at} {u = u} e h l x = test_by passes e h x (concludes Δ at.from u (typed u) (concluded_within at.from u l))

  pub test_none : {at : Span} {p : Test} {s : Core} {a : Ty} → verdict p a ≡ fails → StandsFor Δ t (Some a) → IsWithinLimits a → Comes procs Δ Γ t (test at p s) (typed a)
  test_none {at} {a = a} e h l = test_by fails e h gives (concludes Δ at.from a (typed a) (concluded_within at.from a l))

  pub test_some_faulty : {at : Span} {p : Test} {s : Core} {a : Ty} {n : ℕ} {f : Fault} → verdict p a ≡ undecided n → StandsFor Δ t (Some a) → Comes procs Δ Γ (element n (content_type a)) s (faulty f) → Comes procs Δ Γ t (test at p s) (faulty f)
  test_some_faulty {n = n} e h x = test_by (undecided n) e h x refl

  pub test_some : {at : Span} {p : Test} {s : Core} {a u : Ty} {n : ℕ} (o : Outcome) → verdict p a ≡ undecided n → StandsFor Δ t (Some a) → Comes procs Δ Γ (element n (content_type a)) s (typed u) → concluded at.from (alt u a) ≡ o → Comes procs Δ Γ t (test at p s) o
  test_some {at} {a = a} {u} {n} o e h x k = test_by (undecided n) e h x (concludes Δ at.from (alt u a) o k)

  -- ---- the content of an element

  pub children_many : {at : Span} {s : Core} → StandsFor Δ t None → Comes procs Δ Γ t (children at s) (faulty (not_single at.from))
  children_many h = of_children h stops refl

  pub children_atom : {at : Span} {s : Core} (a : Ty) → StandsFor Δ t (Some a) → IsNoElement a → Comes procs Δ Γ t (children at s) (faulty (not_element at.from))
  children_atom {at} {s} a h i = of_children h (subst (λ c. Has procs (behind c (λ u Δ'. of_core Δ' Γ u s)) (update.faulty (not_element at.from))) (sym (content_no Δ at.from a i)) stops) refl

  children_of : {at : Span} {s : Core} {b o : update.Outcome} (l : Option ℕ) (u : Ty) → StandsFor Δ t (Some (element_type l u)) → Has procs (of_core Δ Γ u s) b → update.made at.from (element_type l) b ≡ o → Has procs (of_core Δ Γ t (children at s)) o
  children_of (Some m) u h x k = of_children h (goes_on x) k
  children_of None u h x k = of_children h (goes_on x) k

  pub children_faulty : {at : Span} {s : Core} {f : Fault} (l : Option ℕ) (a u : Ty) → StandsFor Δ t (Some a) → a ≡ element_type l u → Comes procs Δ Γ u s (faulty f) → Comes procs Δ Γ t (children at s) (faulty f)
  children_faulty l a u h e x = children_of l u (subst (λ a. StandsFor Δ t (Some a)) e h) x refl

  pub children_typed : {at : Span} {s : Core} {w : Ty} (l : Option ℕ) (a u : Ty) (o : Outcome) → StandsFor Δ t (Some a) → a ≡ element_type l u → Comes procs Δ Γ u s (typed w) → concluded at.from (element_type l w) ≡ o → Comes procs Δ Γ t (children at s) o
  children_typed {at} {w = w} l a u o h e x k = children_of l u (subst (λ a. StandsFor Δ t (Some a)) e h) x (concludes Δ at.from (element_type l w) o k)

  -- ---- before and behind the focus

  pub left_faulty : {at : Span} {s : Core} {f : Fault} → Comes procs Δ Γ empty s (faulty f) → Comes procs Δ Γ t (left at s) (faulty f)
  left_faulty x = of_left x refl

  pub left_typed : {at : Span} {s : Core} {u : Ty} (o : Outcome) → Comes procs Δ Γ empty s (typed u) → concluded at.from (seq u t) ≡ o → Comes procs Δ Γ t (left at s) o
  left_typed {at} {u = u} o x k = of_left x (concludes Δ at.from (seq u t) o k)

  pub right_faulty : {at : Span} {s : Core} {f : Fault} → Comes procs Δ Γ empty s (faulty f) → Comes procs Δ Γ t (right at s) (faulty f)
  right_faulty x = of_right x refl

  pub right_typed : {at : Span} {s : Core} {u : Ty} (o : Outcome) → Comes procs Δ Γ empty s (typed u) → concluded at.from (seq t u) ≡ o → Comes procs Δ Γ t (right at s) o
  right_typed {at} {u = u} o x k = of_right x (concludes Δ at.from (seq t u) o k)

  -- ---- one behind the other

  pub first_faulty : {at : Span} {s r : Core} {f : Fault} → Comes procs Δ Γ t s (faulty f) → Comes procs Δ Γ t (both at s r) (faulty f)
  first_faulty x = of_both x stops

  pub follows : {at : Span} {s r : Core} {u : Ty} (o : Outcome) → Comes procs Δ Γ t s (typed u) → Comes procs Δ Γ u r o → Comes procs Δ Γ t (both at s r) o
  follows o x y = of_both x (goes_on y)
