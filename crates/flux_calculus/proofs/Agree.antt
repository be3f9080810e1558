-- The rules and the function agree.
use Rattle.std.proofs.Common.{◌≡◌, ◌↔◌, ◌⊎◌, inl, inr, ◌∙◌, ◌≤◌, refl, sym, ap, subst, ℕ, zero, suc, arith, Bool, true, false, List, [], ◌∷◌, Option, Some, None, if◌then◌else◌}
use Rattle.flux_atom.specs.declared.atom.Atom.{Atom}
use Rattle.flux_trees.specs.Hedge.{Plain, nil, elem, leaf, join, trees}
use Rattle.flux_trees.specs.Frame.{Frame, Down, Before, After, Each}
use Rattle.flux_trees.proofs.HedgeLaws.{join-nil, join_assoc}
use Rattle.flux_calculus.specs.declared.ask.Test.{Test}
use Rattle.flux_calculus.specs.declared.ask.Var.{Var}
use Rattle.flux_calculus.specs.declared.ask.Span.{Span}
use Rattle.flux_calculus.specs.Tests.{is_tree, matches}
use Rattle.flux_calculus.specs.Query.{Query, Environment, value}
use Rattle.flux_calculus.specs.Core.{Core, skip, nothing, both, choice, binding, snapshot, insert, delete, rename, test, children, left, right, iter, call, Proc, Procs, proc_of}
use Rattle.flux_calculus.specs.Derives.{condition, bound_to, Derives, DerivesEach, Exceeds, ExceedsEach, skips, ends, follows, takes_yes, takes_no, binds, notes, inserts, deletes, renames, tests, passes, enters, goes_left, goes_right, iterates, calls, each_end, each_more, here, in_call, in_first, in_others, in_yes, in_no, in_binding, in_snapshot, in_test, in_children, in_left, in_right, in_iter, in_tree, in_later}
use Rattle.flux_calculus.specs.Ending.{Goes, on_truth, on_value, on_insert, on_rename, on_test, on_content, on_each, goes, on_bound, on_proc, calls_at, does, Ending, Gives, TooDeep, Stuck, endings, ending}

-- frames, and what is done with a result
abbrev Frames : Type 0
Frames = List (Frame (Unit {0}))

abbrev Next : Type 0
Next = Plain → Ending

abbrev PlainGoes : Type 0
PlainGoes = Goes (Unit {0}) Ending

-- what a statement does, over plain forests
abbrev pub Does : Procs → ℕ → Environment → Core → PlainGoes
Does procs d γ s fs v k = does endings procs d γ s fs v k

-- and on each of the trees still to come
abbrev DoesEach : Procs → ℕ → Environment → Core → Frames → Plain → Plain → Next → Ending
DoesEach procs d γ s fs done rest k = on_each endings (Does procs d γ s) fs done rest k

on_true : (b : Option Bool) (o p : Ending) → b ≡ Some true → on_truth endings b o p ≡ o
on_true b o p e = rw e refl

on_false : (b : Option Bool) (o p : Ending) → b ≡ Some false → on_truth endings b o p ≡ p
on_false b o p e = rw e refl

after_value : (o : Option Plain) (u : Plain) (go : Plain → Ending) → o ≡ Some u → on_value endings o go ≡ go u
after_value o u go e = rw e refl

matched : (t : Test) (go : PlainGoes) (fs : Frames) (v : Plain) (k : Next) → is_tree v ≡ true → matches t v ≡ true → on_test endings t go fs v k ≡ go fs v k
matched t go fs v k one fits = rw (one, fits) refl

unmatched : (t : Test) (go : PlainGoes) (fs : Frames) (v : Plain) (k : Next) → is_tree v ≡ true → matches t v ≡ false → on_test endings t go fs v k ≡ k v
unmatched t go fs v k one misses = rw (one, misses) refl

called : (procs : Procs) (d : ℕ) (γ δ : Environment) (p : ℕ) (args : List Query) (q : Proc) (fs : Frames) (v : Plain) (k : Next) → proc_of procs p ≡ Some q → bound_to γ q.params args ≡ Some δ →
    on_proc endings (proc_of procs p) γ args (goes endings (calls_at endings procs d)) fs v k ≡ Does procs d δ q.body fs v (λ w. k w)
called procs d γ δ p args q fs v k e f = rw e (rw f refl)

tail_same : {v w : Plain} {vs ws : List Plain} → v ∷ vs ≡ w ∷ ws → vs ≡ ws
tail_same e = cc

-- what the rules derive is what the function goes on with
mutual
  pub derives-does : {procs : Procs} {d : ℕ} {γ : Environment} {v w : Plain} {s : Core} → Derives procs d γ v s w → (fs : Frames) (k : Next) → Does procs d γ s fs v k ≡ k w
  derives-does skips fs k = refl
  derives-does ends fs k = refl
  derives-does {procs} {d} {γ} (follows {s = s} {r = r} a b) fs k = derives-does a fs (λ u. Does procs d γ r fs u k) ∙ derives-does b fs k
  derives-does {procs} {d} {γ} {v} (takes_yes {c = c} {s = s} {r = r} e a) fs k = on_true (condition γ c) (Does procs d γ s fs v k) (Does procs d γ r fs v k) e ∙ derives-does a fs k
  derives-does {procs} {d} {γ} {v} (takes_no {c = c} {s = s} {r = r} e a) fs k = on_false (condition γ c) (Does procs d γ s fs v k) (Does procs d γ r fs v k) e ∙ derives-does a fs k
  derives-does {procs} {d} {γ} {v} (binds {x = x} {q = q} {s = s} e a) fs k = after_value (value γ q) _ (λ u. Does procs d ((x, u) ∷ γ) s fs v (λ w. k w)) e ∙ derives-does a fs (λ w. k w)
  derives-does (notes a) fs k = derives-does a fs (λ w. k w)
  derives-does {γ = γ} (inserts {q = q} e) fs k = after_value (value γ q) _ (λ w. k w) e
  derives-does deletes fs k = refl
  derives-does renames fs k = refl
  derives-does {procs} {d} {γ} {v} (tests {t = t} {s = s} one fits a) fs k = matched t (Does procs d γ s) fs v k one fits ∙ derives-does a fs k
  derives-does {procs} {d} {γ} {v} (passes {t = t} {s = s} one misses) fs k = unmatched t (Does procs d γ s) fs v k one misses
  derives-does (enters {n = n} a) fs k = derives-does a (Down tt n ∷ fs) (λ w. k (elem tt n w nil))
  derives-does (goes_left {v = v} a j) fs k = derives-does a (Before v ∷ fs) (λ u. k (join u v)) ∙ ap k j
  derives-does (goes_right {v = v} a j) fs k = derives-does a (After v ∷ fs) (λ u. k (join v u)) ∙ ap k j
  derives-does (iterates {v = v} a) fs k = each-does a v refl fs nil k
  derives-does {procs} (calls {d} {γ} {δ} {at} {p} {args} {q} {v} {w} e f a) fs k = called procs d γ δ p args q fs v k e f ∙ derives-does a fs (λ u. k u)

  each-does : {procs : Procs} {d : ℕ} {γ : Environment} {vs : List Plain} {w : Plain} {s : Core} → DerivesEach procs d γ vs s w → (v : Plain) → trees v ≡ vs → (fs : Frames) (done : Plain) (k : Next) → DoesEach procs d γ s fs done v k ≡ k (join done w)
  each-does each_end nil e fs done k = ap k (sym (join-nil done))
  each-does each_end (elem _ n c r) e fs done k = cc
  each-does each_end (leaf _ y r) e fs done k = cc
  each-does (each_more a b j) nil e fs done k = cc
  each-does {procs} {d} {γ} {s = s} (each_more {v = x} {u = u} {r = w} a b j) (elem m n c r) e fs done k =
      let first : elem m n c nil ≡ x = cc in
      ap (λ y. Does procs d γ s (Each done r ∷ fs) y (λ z. DoesEach procs d γ s fs (join done z) r k)) first
      ∙ derives-does a (Each done r ∷ fs) (λ z. DoesEach procs d γ s fs (join done z) r k) ∙ each-does b r (tail_same e) fs (join done u) k ∙ ap k (join_assoc done u w ∙ ap (join done) j)
  each-does {procs} {d} {γ} {s = s} (each_more {v = x} {u = u} {r = w} a b j) (leaf m l r) e fs done k =
      let first : leaf m l nil ≡ x = cc in
      ap (λ y. Does procs d γ s (Each done r ∷ fs) y (λ z. DoesEach procs d γ s fs (join done z) r k)) first
      ∙ derives-does a (Each done r ∷ fs) (λ z. DoesEach procs d γ s fs (join done z) r k) ∙ each-does b r (tail_same e) fs (join done u) k ∙ ap k (join_assoc done u w ∙ ap (join done) j)

-- where the rules exceed the depth, the function says so, at the same place
mutual
  pub exceeds-does : {procs : Procs} {d : ℕ} {γ : Environment} {v : Plain} {s : Core} {place : ℕ} → Exceeds procs d γ v s place → (fs : Frames) (k : Next) → Does procs d γ s fs v k ≡ TooDeep place
  exceeds-does here fs k = refl
  exceeds-does {procs} (in_call {d} {γ} {δ} {at} {p} {place} {args} {q} {v} e f a) fs k = called procs d γ δ p args q fs v k e f ∙ exceeds-does a fs (λ w. k w)
  exceeds-does {procs} {d} {γ} (in_first {r = r} a) fs k = exceeds-does a fs (λ u. Does procs d γ r fs u k)
  exceeds-does {procs} {d} {γ} (in_others {r = r} a b) fs k = derives-does a fs (λ u. Does procs d γ r fs u k) ∙ exceeds-does b fs k
  exceeds-does {procs} {d} {γ} {v} (in_yes {c = c} {s = s} {r = r} e a) fs k = on_true (condition γ c) (Does procs d γ s fs v k) (Does procs d γ r fs v k) e ∙ exceeds-does a fs k
  exceeds-does {procs} {d} {γ} {v} (in_no {c = c} {s = s} {r = r} e a) fs k = on_false (condition γ c) (Does procs d γ s fs v k) (Does procs d γ r fs v k) e ∙ exceeds-does a fs k
  exceeds-does {procs} {d} {γ} {v} (in_binding {x = x} {q = q} {s = s} e a) fs k = after_value (value γ q) _ (λ u. Does procs d ((x, u) ∷ γ) s fs v (λ w. k w)) e ∙ exceeds-does a fs (λ w. k w)
  exceeds-does (in_snapshot a) fs k = exceeds-does a fs (λ w. k w)
  exceeds-does {procs} {d} {γ} {v} (in_test {t = t} {s = s} one fits a) fs k = matched t (Does procs d γ s) fs v k one fits ∙ exceeds-does a fs k
  exceeds-does (in_children {n = n} a) fs k = exceeds-does a (Down tt n ∷ fs) (λ w. k (elem tt n w nil))
  exceeds-does (in_left {v = v} a) fs k = exceeds-does a (Before v ∷ fs) (λ u. k (join u v))
  exceeds-does (in_right {v = v} a) fs k = exceeds-does a (After v ∷ fs) (λ u. k (join v u))
  exceeds-does (in_iter {v = v} a) fs k = each-exceeds a v refl fs nil k

  each-exceeds : {procs : Procs} {d : ℕ} {γ : Environment} {vs : List Plain} {s : Core} {place : ℕ} → ExceedsEach procs d γ vs s place → (v : Plain) → trees v ≡ vs → (fs : Frames) (done : Plain) (k : Next) → DoesEach procs d γ s fs done v k ≡ TooDeep place
  each-exceeds (in_tree a) nil e fs done k = cc
  each-exceeds {procs} {d} {γ} {s = s} (in_tree {v = x} a) (elem m n c r) e fs done k =
      let first : elem m n c nil ≡ x = cc in
      ap (λ y. Does procs d γ s (Each done r ∷ fs) y (λ z. DoesEach procs d γ s fs (join done z) r k)) first ∙ exceeds-does a (Each done r ∷ fs) (λ z. DoesEach procs d γ s fs (join done z) r k)
  each-exceeds {procs} {d} {γ} {s = s} (in_tree {v = x} a) (leaf m l r) e fs done k =
      let first : leaf m l nil ≡ x = cc in
      ap (λ y. Does procs d γ s (Each done r ∷ fs) y (λ z. DoesEach procs d γ s fs (join done z) r k)) first ∙ exceeds-does a (Each done r ∷ fs) (λ z. DoesEach procs d γ s fs (join done z) r k)
  each-exceeds (in_later a b) nil e fs done k = cc
  each-exceeds {procs} {d} {γ} {s = s} (in_later {v = x} {u = u} a b) (elem m n c r) e fs done k =
      let first : elem m n c nil ≡ x = cc in
      ap (λ y. Does procs d γ s (Each done r ∷ fs) y (λ z. DoesEach procs d γ s fs (join done z) r k)) first
      ∙ derives-does a (Each done r ∷ fs) (λ z. DoesEach procs d γ s fs (join done z) r k) ∙ each-exceeds b r (tail_same e) fs (join done u) k
  each-exceeds {procs} {d} {γ} {s = s} (in_later {v = x} {u = u} a b) (leaf m l r) e fs done k =
      let first : leaf m l nil ≡ x = cc in
      ap (λ y. Does procs d γ s (Each done r ∷ fs) y (λ z. DoesEach procs d γ s fs (join done z) r k)) first
      ∙ derives-does a (Each done r ∷ fs) (λ z. DoesEach procs d γ s fs (join done z) r k) ∙ each-exceeds b r (tail_same e) fs (join done u) k

-- a derivation is one with more calls to go
mutual
  deeper : {procs : Procs} {d : ℕ} {γ : Environment} {v w : Plain} {s : Core} → Derives procs d γ v s w → Derives procs (suc d) γ v s w
  deeper skips = skips
  deeper ends = ends
  deeper (follows a b) = follows (deeper a) (deeper b)
  deeper (takes_yes e a) = takes_yes e (deeper a)
  deeper (takes_no e a) = takes_no e (deeper a)
  deeper (binds e a) = binds e (deeper a)
  deeper (notes a) = notes (deeper a)
  deeper (inserts e) = inserts e
  deeper deletes = deletes
  deeper renames = renames
  deeper (tests one fits a) = tests one fits (deeper a)
  deeper (passes one misses) = passes one misses
  deeper (enters a) = enters (deeper a)
  deeper (goes_left a j) = goes_left (deeper a) j
  deeper (goes_right a j) = goes_right (deeper a) j
  deeper (iterates a) = iterates (deeper_each a)
  deeper (calls e f a) = calls e f (deeper a)

  deeper_each : {procs : Procs} {d : ℕ} {γ : Environment} {vs : List Plain} {w : Plain} {s : Core} → DerivesEach procs d γ vs s w → DerivesEach procs (suc d) γ vs s w
  deeper_each each_end = each_end
  deeper_each (each_more a b j) = each_more (deeper a) (deeper_each b) j

pub goes_deeper : (procs : Procs) (d e : ℕ) (γ : Environment) (v : Plain) (s : Core) (w : Plain) → d ≤ e → Derives procs d γ v s w → Derives procs e γ v s w
goes_deeper procs d zero γ v s w h a = let same : d ≡ zero = omega (arith, h) in subst (λ n. Derives procs n γ v s w) same a
goes_deeper procs d (suc e) γ v s w h a =
    elim (split_le d e h) [ inl k ↦ deeper (goes_deeper procs d e γ v s w k a) | inr k ↦ subst (λ n. Derives procs n γ v s w) k a ]
  where
    split_le : (d e : ℕ) → d ≤ suc e → (d ≤ e) ⊎ (d ≡ suc e)
    split_le zero e h = inl (omega arith)
    split_le (suc d) zero h = inr (omega (arith, h))
    split_le (suc d) (suc e) h = elim (split_le d e (omega (arith, h))) [ inl k ↦ inl (omega (arith, k)) | inr k ↦ inr (omega (arith, k)) ]

-- ---- a statement's verdict: the rules derive a forest, they exceed the depth, or no rule fits

pub data Verdict (procs : Procs) (d : ℕ) (γ : Environment) (s : Core) (v : Plain) : Type 0 where
  derived : (w : Plain) → Derives procs d γ v s w → Verdict procs d γ s v
  exceeded : (place : ℕ) → Exceeds procs d γ v s place → Verdict procs d γ s v
  no_rule : ((fs : Frames) (k : Next) → Does procs d γ s fs v k ≡ Stuck) → Verdict procs d γ s v

data EachVerdict (procs : Procs) (d : ℕ) (γ : Environment) (s : Core) (v : Plain) : Type 0 where
  each_derived : (w : Plain) → DerivesEach procs d γ (trees v) s w → EachVerdict procs d γ s v
  each_exceeded : (place : ℕ) → ExceedsEach procs d γ (trees v) s place → EachVerdict procs d γ s v
  each_no_rule : ((fs : Frames) (done : Plain) (k : Next) → DoesEach procs d γ s fs done v k ≡ Stuck) → EachVerdict procs d γ s v

module _ (procs : Procs) (d : ℕ) where
  both_verdict : (γ : Environment) (at : Span) (s r : Core) (v : Plain) → Verdict procs d γ s v → ((u : Plain) → Verdict procs d γ r u) → Verdict procs d γ (both at s r) v
  both_verdict γ at s r v (derived u a) h =
      elim (h u) [
        | derived w b ↦ derived w (follows a b)
        | exceeded place b ↦ exceeded place (in_others a b)
        | no_rule f ↦ no_rule (λ fs k. derives-does a fs (λ x. Does procs d γ r fs x k) ∙ f fs k)
      ]
  both_verdict γ at s r v (exceeded place a) h = exceeded place (in_first a)
  both_verdict γ at s r v (no_rule f) h = no_rule (λ fs k. f fs (λ u. Does procs d γ r fs u k))

  no_choice : (γ : Environment) (c : Query) (s r : Core) (fs : Frames) (v : Plain) (k : Next) → condition γ c ≡ None → on_truth endings (condition γ c) (Does procs d γ s fs v k) (Does procs d γ r fs v k) ≡ Stuck
  no_choice γ c s r fs v k e = rw e refl

  choice_verdict : (γ : Environment) (at : Span) (c : Query) (s r : Core) (v : Plain) (b : Option Bool) → condition γ c ≡ b → Verdict procs d γ s v → Verdict procs d γ r v → Verdict procs d γ (choice at c s r) v
  choice_verdict γ at c s r v None e g h = no_rule (λ fs k. no_choice γ c s r fs v k e)
  choice_verdict γ at c s r v (Some true) e g h =
      elim g [
        | derived w a ↦ derived w (takes_yes e a)
        | exceeded place a ↦ exceeded place (in_yes e a)
        | no_rule f ↦ no_rule (λ fs k. on_true (condition γ c) (Does procs d γ s fs v k) (Does procs d γ r fs v k) e ∙ f fs k)
      ]
  choice_verdict γ at c s r v (Some false) e g h =
      elim h [
        | derived w a ↦ derived w (takes_no e a)
        | exceeded place a ↦ exceeded place (in_no e a)
        | no_rule f ↦ no_rule (λ fs k. on_false (condition γ c) (Does procs d γ s fs v k) (Does procs d γ r fs v k) e ∙ f fs k)
      ]

  no_value : (o : Option Plain) (go : Plain → Ending) → o ≡ None → on_value endings o go ≡ Stuck
  no_value o go e = rw e refl

  binding_verdict : (γ : Environment) (at : Span) (x : Var) (q : Query) (s : Core) (v : Plain) (o : Option Plain) → value γ q ≡ o → ((u : Plain) → Verdict procs d ((x, u) ∷ γ) s v) → Verdict procs d γ (binding at x q s) v
  binding_verdict γ at x q s v None e h = no_rule (λ fs k. no_value (value γ q) (λ u. Does procs d ((x, u) ∷ γ) s fs v (λ w. k w)) e)
  binding_verdict γ at x q s v (Some u) e h =
      elim (h u) [
        | derived w a ↦ derived w (binds e a)
        | exceeded place a ↦ exceeded place (in_binding e a)
        | no_rule f ↦ no_rule (λ fs k. after_value (value γ q) u (λ y. Does procs d ((x, y) ∷ γ) s fs v (λ w. k w)) e ∙ f fs (λ w. k w))
      ]

  snapshot_verdict : (γ : Environment) (at : Span) (x : Var) (s : Core) (v : Plain) → Verdict procs d ((x, v) ∷ γ) s v → Verdict procs d γ (snapshot at x s) v
  snapshot_verdict γ at x s v (derived w a) = derived w (notes a)
  snapshot_verdict γ at x s v (exceeded place a) = exceeded place (in_snapshot a)
  snapshot_verdict γ at x s v (no_rule f) = no_rule (λ fs k. f fs (λ w. k w))

  insert_verdict : (γ : Environment) (at : Span) (q : Query) (v : Plain) (o : Option Plain) → value γ q ≡ o → Verdict procs d γ (insert at q) v
  insert_verdict γ at q nil None e = no_rule (λ fs k. no_value (value γ q) (λ w. k w) e)
  insert_verdict γ at q nil (Some w) e = derived w (inserts e)
  insert_verdict γ at q (elem _ n c r) o e = no_rule (λ fs k. refl)
  insert_verdict γ at q (leaf _ x r) o e = no_rule (λ fs k. refl)

  rename_verdict : (γ : Environment) (at : Span) (n : ℕ) (v : Plain) → Verdict procs d γ (rename at n) v
  rename_verdict γ at n nil = no_rule (λ fs k. refl)
  rename_verdict γ at n (elem _ m c nil) = derived (elem tt n c nil) renames
  rename_verdict γ at n (elem _ m c (elem _ l b r)) = no_rule (λ fs k. refl)
  rename_verdict γ at n (elem _ m c (leaf _ x r)) = no_rule (λ fs k. refl)
  rename_verdict γ at n (leaf _ x r) = no_rule (λ fs k. refl)

  no_tree : (t : Test) (go : PlainGoes) (fs : Frames) (v : Plain) (k : Next) → is_tree v ≡ false → on_test endings t go fs v k ≡ Stuck
  no_tree t go fs v k e = rw e refl

  test_verdict : (γ : Environment) (at : Span) (t : Test) (s : Core) (v : Plain) (b c : Bool) → is_tree v ≡ b → matches t v ≡ c → Verdict procs d γ s v → Verdict procs d γ (test at t s) v
  test_verdict γ at t s v false c many e h = no_rule (λ fs k. no_tree t (Does procs d γ s) fs v k many)
  test_verdict γ at t s v true false one misses h = derived v (passes one misses)
  test_verdict γ at t s v true true one fits h =
      elim h [
        | derived w a ↦ derived w (tests one fits a)
        | exceeded place a ↦ exceeded place (in_test one fits a)
        | no_rule f ↦ no_rule (λ fs k. matched t (Does procs d γ s) fs v k one fits ∙ f fs k)
      ]

  content_verdict : (γ : Environment) (at : Span) (n : ℕ) (c : Plain) (s : Core) → Verdict procs d γ s c → Verdict procs d γ (children at s) (elem tt n c nil)
  content_verdict γ at n c s (derived w a) = derived (elem tt n w nil) (enters a)
  content_verdict γ at n c s (exceeded place a) = exceeded place (in_children a)
  content_verdict γ at n c s (no_rule f) = no_rule (λ fs k. f (Down tt n ∷ fs) (λ w. k (elem tt n w nil)))

  children_verdict : (γ : Environment) (at : Span) (s : Core) → ((u : Plain) → Verdict procs d γ s u) → (v : Plain) → Verdict procs d γ (children at s) v
  children_verdict γ at s h nil = no_rule (λ fs k. refl)
  children_verdict γ at s h (elem _ n c nil) = content_verdict γ at n c s (h c)
  children_verdict γ at s h (elem _ n c (elem _ m b r)) = no_rule (λ fs k. refl)
  children_verdict γ at s h (elem _ n c (leaf _ x r)) = no_rule (λ fs k. refl)
  children_verdict γ at s h (leaf _ x r) = no_rule (λ fs k. refl)

  left_verdict : (γ : Environment) (at : Span) (s : Core) (v : Plain) → Verdict procs d γ s nil → Verdict procs d γ (left at s) v
  left_verdict γ at s v (derived u a) = derived (join u v) (goes_left a refl)
  left_verdict γ at s v (exceeded place a) = exceeded place (in_left a)
  left_verdict γ at s v (no_rule f) = no_rule (λ fs k. f (Before v ∷ fs) (λ u. k (join u v)))

  right_verdict : (γ : Environment) (at : Span) (s : Core) (v : Plain) → Verdict procs d γ s nil → Verdict procs d γ (right at s) v
  right_verdict γ at s v (derived u a) = derived (join v u) (goes_right a refl)
  right_verdict γ at s v (exceeded place a) = exceeded place (in_right a)
  right_verdict γ at s v (no_rule f) = no_rule (λ fs k. f (After v ∷ fs) (λ u. k (join v u)))

  first_elem : (γ : Environment) (s : Core) (n : ℕ) (c r : Plain) → Verdict procs d γ s (elem tt n c nil) → EachVerdict procs d γ s r → EachVerdict procs d γ s (elem tt n c r)
  first_elem γ s n c r (derived u a) (each_derived w b) = each_derived (join u w) (each_more a b refl)
  first_elem γ s n c r (derived u a) (each_exceeded place b) = each_exceeded place (in_later a b)
  first_elem γ s n c r (derived u a) (each_no_rule f) =
      each_no_rule (λ fs done k. derives-does a (Each done r ∷ fs) (λ x. DoesEach procs d γ s fs (join done x) r k) ∙ f fs (join done u) k)
  first_elem γ s n c r (exceeded place a) e = each_exceeded place (in_tree a)
  first_elem γ s n c r (no_rule f) e = each_no_rule (λ fs done k. f (Each done r ∷ fs) (λ x. DoesEach procs d γ s fs (join done x) r k))

  first_leaf : (γ : Environment) (s : Core) (y : Atom) (r : Plain) → Verdict procs d γ s (leaf tt y nil) → EachVerdict procs d γ s r → EachVerdict procs d γ s (leaf tt y r)
  first_leaf γ s y r (derived u a) (each_derived w b) = each_derived (join u w) (each_more a b refl)
  first_leaf γ s y r (derived u a) (each_exceeded place b) = each_exceeded place (in_later a b)
  first_leaf γ s y r (derived u a) (each_no_rule f) =
      each_no_rule (λ fs done k. derives-does a (Each done r ∷ fs) (λ x. DoesEach procs d γ s fs (join done x) r k) ∙ f fs (join done u) k)
  first_leaf γ s y r (exceeded place a) e = each_exceeded place (in_tree a)
  first_leaf γ s y r (no_rule f) e = each_no_rule (λ fs done k. f (Each done r ∷ fs) (λ x. DoesEach procs d γ s fs (join done x) r k))

  each_verdict : (γ : Environment) (s : Core) → ((u : Plain) → Verdict procs d γ s u) → (v : Plain) → EachVerdict procs d γ s v
  each_verdict γ s h nil = each_derived nil each_end
  each_verdict γ s h (elem _ n c r) = first_elem γ s n c r (h (elem tt n c nil)) (each_verdict γ s h r)
  each_verdict γ s h (leaf _ y r) = first_leaf γ s y r (h (leaf tt y nil)) (each_verdict γ s h r)

  iter_verdict : (γ : Environment) (at : Span) (s : Core) (v : Plain) → EachVerdict procs d γ s v → Verdict procs d γ (iter at s) v
  iter_verdict γ at s v (each_derived w a) = derived w (iterates a)
  iter_verdict γ at s v (each_exceeded place a) = exceeded place (in_iter a)
  iter_verdict γ at s v (each_no_rule f) = no_rule (λ fs k. f fs nil k)

  abbrev CallVerdicts : Type 0
  CallVerdicts = (γ : Environment) (at : Span) (p : ℕ) (args : List Query) (v : Plain) → Verdict procs d γ (call at p args) v

  core_verdict : CallVerdicts → (γ : Environment) (s : Core) (v : Plain) → Verdict procs d γ s v
  core_verdict at_call γ (skip at) v = derived v skips
  core_verdict at_call γ (nothing at) v = derived v ends
  core_verdict at_call γ (both at s r) v = both_verdict γ at s r v (core_verdict at_call γ s v) (λ u. core_verdict at_call γ r u)
  core_verdict at_call γ (choice at c s r) v = choice_verdict γ at c s r v (condition γ c) refl (core_verdict at_call γ s v) (core_verdict at_call γ r v)
  core_verdict at_call γ (binding at x q s) v = binding_verdict γ at x q s v (value γ q) refl (λ u. core_verdict at_call ((x, u) ∷ γ) s v)
  core_verdict at_call γ (snapshot at x s) v = snapshot_verdict γ at x s v (core_verdict at_call ((x, v) ∷ γ) s v)
  core_verdict at_call γ (insert at q) v = insert_verdict γ at q v (value γ q) refl
  core_verdict at_call γ (delete at) v = derived nil deletes
  core_verdict at_call γ (rename at n) v = rename_verdict γ at n v
  core_verdict at_call γ (test at t s) v = test_verdict γ at t s v (is_tree v) (matches t v) refl refl (core_verdict at_call γ s v)
  core_verdict at_call γ (children at s) v = children_verdict γ at s (λ u. core_verdict at_call γ s u) v
  core_verdict at_call γ (left at s) v = left_verdict γ at s v (core_verdict at_call γ s nil)
  core_verdict at_call γ (right at s) v = right_verdict γ at s v (core_verdict at_call γ s nil)
  core_verdict at_call γ (iter at s) v = iter_verdict γ at s v (each_verdict γ s (λ u. core_verdict at_call γ s u) v)
  core_verdict at_call γ (call at p args) v = at_call γ at p args v

-- calls, by how many are to go
module _ (procs : Procs) (d : ℕ) where
  no_proc : (γ : Environment) (p : ℕ) (args : List Query) (fs : Frames) (v : Plain) (k : Next) → proc_of procs p ≡ None → on_proc endings (proc_of procs p) γ args (goes endings (calls_at endings procs d)) fs v k ≡ Stuck
  no_proc γ p args fs v k e = rw e refl

  no_arguments : (γ : Environment) (p : ℕ) (args : List Query) (q : Proc) (fs : Frames) (v : Plain) (k : Next) → proc_of procs p ≡ Some q → bound_to γ q.params args ≡ None →
      on_proc endings (proc_of procs p) γ args (goes endings (calls_at endings procs d)) fs v k ≡ Stuck
  no_arguments γ p args q fs v k e f = rw e (rw f refl)

  body_verdict : (γ δ : Environment) (at : Span) (p : ℕ) (args : List Query) (q : Proc) (v : Plain) → proc_of procs p ≡ Some q → bound_to γ q.params args ≡ Some δ → Verdict procs d δ q.body v → Verdict procs (suc d) γ (call at p args) v
  body_verdict γ δ at p args q v e f (derived w a) = derived w (calls e f a)
  body_verdict γ δ at p args q v e f (exceeded place a) = exceeded place (in_call e f a)
  body_verdict γ δ at p args q v e f (no_rule g) = no_rule (λ fs k. called procs d γ δ p args q fs v k e f ∙ g fs (λ w. k w))

  bound_verdict : (γ : Environment) (at : Span) (p : ℕ) (args : List Query) (q : Proc) (v : Plain) (o : Option Environment) → proc_of procs p ≡ Some q → bound_to γ q.params args ≡ o → ((δ : Environment) → Verdict procs d δ q.body v) →
      Verdict procs (suc d) γ (call at p args) v
  bound_verdict γ at p args q v None e f h = no_rule (λ fs k. no_arguments γ p args q fs v k e f)
  bound_verdict γ at p args q v (Some δ) e f h = body_verdict γ δ at p args q v e f (h δ)

  proc_verdict : (γ : Environment) (at : Span) (p : ℕ) (args : List Query) (v : Plain) (o : Option Proc) → proc_of procs p ≡ o → ((δ : Environment) (s : Core) → Verdict procs d δ s v) → Verdict procs (suc d) γ (call at p args) v
  proc_verdict γ at p args v None e h = no_rule (λ fs k. no_proc γ p args fs v k e)
  proc_verdict γ at p args v (Some q) e h = bound_verdict γ at p args q v (bound_to γ q.params args) e refl (λ δ. h δ q.body)

call_verdict : (procs : Procs) (d : ℕ) → CallVerdicts procs d
call_verdict procs zero γ at p args v = exceeded at.from here
call_verdict procs (suc d) γ at p args v = proc_verdict procs d γ at p args v (proc_of procs p) refl (λ δ s. core_verdict procs d (call_verdict procs d) δ s v)

pub verdict : (procs : Procs) (d : ℕ) (γ : Environment) (s : Core) (v : Plain) → Verdict procs d γ s v
verdict procs d γ s v = core_verdict procs d (call_verdict procs d) γ s v

-- ---- the laws

pub derives-gives : {procs : Procs} {d : ℕ} {γ : Environment} {v w : Plain} {s : Core} → Derives procs d γ v s w → ending procs d γ s v ≡ Gives w
derives-gives a = derives-does a [] Gives

pub exceeds-deep : {procs : Procs} {d : ℕ} {γ : Environment} {v : Plain} {s : Core} {place : ℕ} → Exceeds procs d γ v s place → ending procs d γ s v ≡ TooDeep place
exceeds-deep a = exceeds-does a [] Gives

pub gives-derives : (procs : Procs) (d : ℕ) (γ : Environment) (s : Core) (v w : Plain) → ending procs d γ s v ≡ Gives w → Derives procs d γ v s w
gives-derives procs d γ s v w e = elim (verdict procs d γ s v) [
  | derived x a ↦ (let h : Gives x ≡ Gives w = sym (derives-gives a) ∙ e in let j : x ≡ w = cc in subst (λ y. Derives procs d γ v s y) j a)
  | exceeded place a ↦ (let h : TooDeep place ≡ Gives w = sym (exceeds-deep a) ∙ e in cc)
  | no_rule f ↦ (let h : Stuck ≡ Gives w = sym (f [] Gives) ∙ e in cc)
]

pub deep-exceeds : (procs : Procs) (d : ℕ) (γ : Environment) (s : Core) (v : Plain) (place : ℕ) → ending procs d γ s v ≡ TooDeep place → Exceeds procs d γ v s place
deep-exceeds procs d γ s v place e = elim (verdict procs d γ s v) [
  | derived x a ↦ (let h : Gives x ≡ TooDeep place = sym (derives-gives a) ∙ e in cc)
  | exceeded at a ↦ (let h : TooDeep at ≡ TooDeep place = sym (exceeds-deep a) ∙ e in let j : at ≡ place = cc in subst (λ y. Exceeds procs d γ v s y) j a)
  | no_rule f ↦ (let h : Stuck ≡ TooDeep place = sym (f [] Gives) ∙ e in cc)
]

pub derivation_computed : (procs : Procs) (d : ℕ) (γ : Environment) (v : Plain) (s : Core) (w : Plain) → Derives procs d γ v s w ↔ (ending procs d γ s v ≡ Gives w)
derivation_computed procs d γ v s w = ((λ a. derives-gives a), (λ e. gives-derives procs d γ s v w e))

pub excess_computed : (procs : Procs) (d : ℕ) (γ : Environment) (v : Plain) (s : Core) (place : ℕ) → Exceeds procs d γ v s place ↔ (ending procs d γ s v ≡ TooDeep place)
excess_computed procs d γ v s place = ((λ a. exceeds-deep a), (λ e. deep-exceeds procs d γ s v place e))

pub derives_one : {procs : Procs} {d : ℕ} {γ : Environment} {v : Plain} {s : Core} {w x : Plain} → Derives procs d γ v s w → Derives procs d γ v s x → w ≡ x
derives_one {w = w} {x = x} a b = let same : Gives w ≡ Gives x = sym (derives-gives a) ∙ derives-gives b in cc

pub exceeds_one : {procs : Procs} {d : ℕ} {γ : Environment} {v : Plain} {s : Core} {at place : ℕ} → Exceeds procs d γ v s at → Exceeds procs d γ v s place → at ≡ place
exceeds_one {at = at} {place = place} a b = let same : TooDeep at ≡ TooDeep place = sym (exceeds-deep a) ∙ exceeds-deep b in cc

pub never_both : {procs : Procs} {d : ℕ} {γ : Environment} {v : Plain} {s : Core} {w : Plain} {place : ℕ} → Derives procs d γ v s w → Exceeds procs d γ v s place → ⊥
never_both {w = w} {place = place} a b = let same : Gives w ≡ TooDeep place = sym (derives-gives a) ∙ exceeds-deep b in cc
