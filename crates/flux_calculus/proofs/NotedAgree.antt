-- The rules over forests with notes and the function agree.
use Rattle.std.proofs.Common.{◌≡◌, ◌∙◌, refl, sym, ap, subst, ℕ, zero, suc, Bool, true, false, List, [], ◌∷◌, Option, Some, None, if◌then◌else◌}
use Rattle.flux_atom.specs.declared.atom.Atom.{Atom}
use Rattle.flux_trees.specs.Hedge.{Hedge, Plain, nil, elem, leaf, join, erase}
use Rattle.flux_trees.specs.Frame.{Frame, Down, Before, After, Each}
use Rattle.flux_calculus.specs.declared.ask.Test.{Test}
use Rattle.flux_calculus.specs.declared.ask.Var.{Var}
use Rattle.flux_calculus.specs.declared.ask.Span.{Span}
use Rattle.flux_calculus.specs.Tests.{is_tree, matches}
use Rattle.flux_calculus.specs.Query.{Query, Environment, value}
use Rattle.flux_calculus.specs.Core.{Core, skip, nothing, both, choice, binding, snapshot, insert, delete, rename, test, children, left, right, iter, call, Proc, Procs, proc_of}
use Rattle.flux_calculus.specs.Derives.{condition, bound_to}
use Rattle.flux_calculus.specs.Ending.{Goes, on_truth, on_value, on_insert, on_rename, on_test, on_content, on_each, goes, on_bound, on_proc, calls_at, does}
use Rattle.flux_calculus.specs.Notation.{Notation, insertion, deletion}
use Rattle.flux_calculus.specs.Noted.{DerivesNoted, EachNoted, skips, ends, follows, takes_yes, takes_no, binds, notes, inserts, deletes, renames, tests, passes, enters, goes_left, goes_right, iterates, calls, each_end, each_elem, each_leaf}
use Rattle.flux_calculus.specs.NotedEnding.{NotedEnding, GivesNoted, NotedTooDeep, NotedStuck, noted_endings, noted_ending}

module _ {N M : Type 0} (notation : Notation N M) (procs : Procs) where
  -- what depends on the marks, and what is done with a result
  abbrev Told : Type 0
  Told = M → NotedEnding N M

  abbrev Next : Type 0
  Next = Hedge N → Told

  abbrev Frames : Type 0
  Frames = List (Frame N)

  abbrev pub DoesNoted : ℕ → Environment → Core → Goes N (M → NotedEnding N M)
  DoesNoted d γ s fs v k = does (noted_endings notation) procs d γ s fs v k

  abbrev DoesEach : ℕ → Environment → Core → Frames → (done rest : Hedge N) → Next → Told
  DoesEach d γ s fs done rest k = on_each (noted_endings notation) (DoesNoted d γ s) fs done rest k

  on_true : (b : Option Bool) (f g : Told) (m : M) → b ≡ Some true → on_truth (noted_endings notation) b f g m ≡ f m
  on_true b f g m e = rw e refl

  on_false : (b : Option Bool) (f g : Told) (m : M) → b ≡ Some false → on_truth (noted_endings notation) b f g m ≡ g m
  on_false b f g m e = rw e refl

  no_truth : (b : Option Bool) (f g : Told) (m : M) → b ≡ None → on_truth (noted_endings notation) b f g m ≡ NotedStuck
  no_truth b f g m e = rw e refl

  after_value : (o : Option Plain) (u : Plain) (go : Plain → Told) (m : M) → o ≡ Some u → on_value (noted_endings notation) o go m ≡ go u m
  after_value o u go m e = rw e refl

  no_value : (o : Option Plain) (go : Plain → Told) (m : M) → o ≡ None → on_value (noted_endings notation) o go m ≡ NotedStuck
  no_value o go m e = rw e refl

  matched : (t : Test) (go : Goes N Told) (fs : Frames) (v : Hedge N) (k : Next) (m : M) → is_tree v ≡ true → matches t v ≡ true → on_test (noted_endings notation) t go fs v k m ≡ go fs v k m
  matched t go fs v k m one fits = rw (one, fits) refl

  unmatched : (t : Test) (go : Goes N Told) (fs : Frames) (v : Hedge N) (k : Next) (m : M) → is_tree v ≡ true → matches t v ≡ false → on_test (noted_endings notation) t go fs v k m ≡ k v m
  unmatched t go fs v k m one misses = rw (one, misses) refl

  no_tree : (t : Test) (go : Goes N Told) (fs : Frames) (v : Hedge N) (k : Next) (m : M) → is_tree v ≡ false → on_test (noted_endings notation) t go fs v k m ≡ NotedStuck
  no_tree t go fs v k m many = rw many refl

  called : (d : ℕ) (γ δ : Environment) (p : ℕ) (args : List Query) (q : Proc) (fs : Frames) (v : Hedge N) (k : Next) (m : M) → proc_of procs p ≡ Some q → bound_to γ q.params args ≡ Some δ →
      on_proc (noted_endings notation) (proc_of procs p) γ args (goes (noted_endings notation) (calls_at (noted_endings notation) procs d)) fs v k m ≡ DoesNoted d δ q.body fs v (λ w. k w) m
  called d γ δ p args q fs v k m e f = rw e (rw f refl)

  no_proc : (d : ℕ) (γ : Environment) (p : ℕ) (args : List Query) (fs : Frames) (v : Hedge N) (k : Next) (m : M) → proc_of procs p ≡ None →
      on_proc (noted_endings notation) (proc_of procs p) γ args (goes (noted_endings notation) (calls_at (noted_endings notation) procs d)) fs v k m ≡ NotedStuck
  no_proc d γ p args fs v k m e = rw e refl

  no_arguments : (d : ℕ) (γ : Environment) (p : ℕ) (args : List Query) (q : Proc) (fs : Frames) (v : Hedge N) (k : Next) (m : M) → proc_of procs p ≡ Some q → bound_to γ q.params args ≡ None →
      on_proc (noted_endings notation) (proc_of procs p) γ args (goes (noted_endings notation) (calls_at (noted_endings notation) procs d)) fs v k m ≡ NotedStuck
  no_arguments d γ p args q fs v k m e f = rw e (rw f refl)

  -- what the rules derive is what the function goes on with
  mutual
    pub noted-does : {d : ℕ} {γ : Environment} {fs : Frames} {v w : Hedge N} {m n : M} {s : Core} → DerivesNoted notation procs d γ fs v m s w n → (k : Next) → DoesNoted d γ s fs v k m ≡ k w n
    noted-does skips k = refl
    noted-does ends k = refl
    noted-does {d} {γ} {fs} (follows {s = s} {r = r} a b) k = noted-does a (λ u. DoesNoted d γ r fs u k) ∙ noted-does b k
    noted-does {d} {γ} {fs} {v} {m = m} (takes_yes {c = c} {s = s} {r = r} e a) k = on_true (condition γ c) (DoesNoted d γ s fs v k) (DoesNoted d γ r fs v k) m e ∙ noted-does a k
    noted-does {d} {γ} {fs} {v} {m = m} (takes_no {c = c} {s = s} {r = r} e a) k = on_false (condition γ c) (DoesNoted d γ s fs v k) (DoesNoted d γ r fs v k) m e ∙ noted-does a k
    noted-does {d} {γ} {fs} {v} {m = m} (binds {x = x} {q = q} {s = s} e a) k = after_value (value γ q) _ (λ u. DoesNoted d ((x, u) ∷ γ) s fs v (λ w. k w)) m e ∙ noted-does a (λ w. k w)
    noted-does (notes a) k = noted-does a (λ w. k w)
    noted-does {γ = γ} {fs} {m = m} (inserts {q = q} e) k = after_value (value γ q) _ (λ u m. k (insertion notation fs u m).0 (insertion notation fs u m).1) m e
    noted-does deletes k = refl
    noted-does renames k = refl
    noted-does {d} {γ} {fs} {v} {m = m} (tests {t = t} {s = s} one fits a) k = matched t (DoesNoted d γ s) fs v k m one fits ∙ noted-does a k
    noted-does {d} {γ} {fs} {v} {m = m} (passes {t = t} {s = s} one misses) k = unmatched t (DoesNoted d γ s) fs v k m one misses
    noted-does (enters {note = note} {a = b} a) k = noted-does a (λ w. k (elem note b w nil))
    noted-does (goes_left {v = v} a) k = noted-does a (λ u. k (join u v))
    noted-does (goes_right {v = v} a) k = noted-does a (λ u. k (join v u))
    noted-does (iterates a) k = each-does a k
    noted-does {fs = fs} {v} {m = m} (calls {d} {γ} {δ} {p = p} {args} {q} e f a) k = called d γ δ p args q fs v k m e f ∙ noted-does a (λ u. k u)

    each-does : {d : ℕ} {γ : Environment} {fs : Frames} {done rest w : Hedge N} {m n : M} {s : Core} → EachNoted notation procs d γ fs done rest m s w n → (k : Next) → DoesEach d γ s fs done rest k m ≡ k w n
    each-does each_end k = refl
    each-does {d} {γ} {fs} {done} {s = s} (each_elem {r = r} a b) k = noted-does a (λ u. DoesEach d γ s fs (join done u) r k) ∙ each-does b k
    each-does {d} {γ} {fs} {done} {s = s} (each_leaf {r = r} a b) k = noted-does a (λ u. DoesEach d γ s fs (join done u) r k) ∙ each-does b k

  -- an ending without a result
  abbrev NoResult : NotedEnding N M → Type 0
  NoResult (GivesNoted v m) = ⊥
  NoResult (NotedTooDeep place) = Unit {0}
  NoResult NotedStuck = Unit {0}

  -- what comes of a statement: the rules derive a forest, or the function ends without a result
  data Verdict (d : ℕ) (γ : Environment) (s : Core) (fs : Frames) (v : Hedge N) (m : M) : Type 0 where
    derived : (w : Hedge N) (n : M) → DerivesNoted notation procs d γ fs v m s w n → Verdict d γ s fs v m
    no_result : (o : NotedEnding N M) → NoResult o → ((k : Next) → DoesNoted d γ s fs v k m ≡ o) → Verdict d γ s fs v m

  data EachVerdict (d : ℕ) (γ : Environment) (s : Core) (fs : Frames) (done rest : Hedge N) (m : M) : Type 0 where
    each_derived : (w : Hedge N) (n : M) → EachNoted notation procs d γ fs done rest m s w n → EachVerdict d γ s fs done rest m
    each_no_result : (o : NotedEnding N M) → NoResult o → ((k : Next) → DoesEach d γ s fs done rest k m ≡ o) → EachVerdict d γ s fs done rest m

  abbrev Verdicts : ℕ → Environment → Core → Type 0
  Verdicts d γ s = (fs : Frames) (v : Hedge N) (m : M) → Verdict d γ s fs v m

  module _ (d : ℕ) where
    both_verdict : (γ : Environment) (at : Span) (s r : Core) (fs : Frames) (v : Hedge N) (m : M) → Verdict d γ s fs v m → Verdicts d γ r → Verdict d γ (both at s r) fs v m
    both_verdict γ at s r fs v m (derived u n a) h =
        elim (h fs u n) [
          | derived w o b ↦ derived w o (follows a b)
          | no_result o x f ↦ no_result o x (λ k. noted-does a (λ y. DoesNoted d γ r fs y k) ∙ f k)
        ]
    both_verdict γ at s r fs v m (no_result o x f) h = no_result o x (λ k. f (λ u. DoesNoted d γ r fs u k))

    choice_verdict : (γ : Environment) (at : Span) (c : Query) (s r : Core) (fs : Frames) (v : Hedge N) (m : M) (b : Option Bool) → condition γ c ≡ b → Verdict d γ s fs v m → Verdict d γ r fs v m → Verdict d γ (choice at c s r) fs v m
    choice_verdict γ at c s r fs v m None e g h = no_result NotedStuck tt (λ k. no_truth (condition γ c) (DoesNoted d γ s fs v k) (DoesNoted d γ r fs v k) m e)
    choice_verdict γ at c s r fs v m (Some true) e g h =
        elim g [
          | derived w n a ↦ derived w n (takes_yes e a)
          | no_result o x f ↦ no_result o x (λ k. on_true (condition γ c) (DoesNoted d γ s fs v k) (DoesNoted d γ r fs v k) m e ∙ f k)
        ]
    choice_verdict γ at c s r fs v m (Some false) e g h =
        elim h [
          | derived w n a ↦ derived w n (takes_no e a)
          | no_result o x f ↦ no_result o x (λ k. on_false (condition γ c) (DoesNoted d γ s fs v k) (DoesNoted d γ r fs v k) m e ∙ f k)
        ]

    binding_verdict : (γ : Environment) (at : Span) (x : Var) (q : Query) (s : Core) (fs : Frames) (v : Hedge N) (m : M) (o : Option Plain) → value γ q ≡ o → ((u : Plain) → Verdict d ((x, u) ∷ γ) s fs v m) → Verdict d γ (binding at x q s) fs v m
    binding_verdict γ at x q s fs v m None e h = no_result NotedStuck tt (λ k. no_value (value γ q) (λ u. DoesNoted d ((x, u) ∷ γ) s fs v (λ w. k w)) m e)
    binding_verdict γ at x q s fs v m (Some u) e h =
        elim (h u) [
          | derived w n a ↦ derived w n (binds e a)
          | no_result o z f ↦ no_result o z (λ k. after_value (value γ q) u (λ y. DoesNoted d ((x, y) ∷ γ) s fs v (λ w. k w)) m e ∙ f (λ w. k w))
        ]

    snapshot_verdict : (γ : Environment) (at : Span) (x : Var) (s : Core) (fs : Frames) (v : Hedge N) (m : M) → Verdict d ((x, erase v) ∷ γ) s fs v m → Verdict d γ (snapshot at x s) fs v m
    snapshot_verdict γ at x s fs v m (derived w n a) = derived w n (notes a)
    snapshot_verdict γ at x s fs v m (no_result o z f) = no_result o z (λ k. f (λ w. k w))

    insert_verdict : (γ : Environment) (at : Span) (q : Query) (fs : Frames) (v : Hedge N) (m : M) (o : Option Plain) → value γ q ≡ o → Verdict d γ (insert at q) fs v m
    insert_verdict γ at q fs nil m None e = no_result NotedStuck tt (λ k. no_value (value γ q) (λ u m. k (insertion notation fs u m).0 (insertion notation fs u m).1) m e)
    insert_verdict γ at q fs nil m (Some u) e = derived (insertion notation fs u m).0 (insertion notation fs u m).1 (inserts e)
    insert_verdict γ at q fs (elem n a c r) m o e = no_result NotedStuck tt (λ k. refl)
    insert_verdict γ at q fs (leaf n x r) m o e = no_result NotedStuck tt (λ k. refl)

    rename_verdict : (γ : Environment) (at : Span) (b : ℕ) (fs : Frames) (v : Hedge N) (m : M) → Verdict d γ (rename at b) fs v m
    rename_verdict γ at b fs nil m = no_result NotedStuck tt (λ k. refl)
    rename_verdict γ at b fs (elem n a c nil) m = derived (elem n b c nil) (notation.relabelled n a b m) renames
    rename_verdict γ at b fs (elem n a c (elem n' a' c' r)) m = no_result NotedStuck tt (λ k. refl)
    rename_verdict γ at b fs (elem n a c (leaf n' x r)) m = no_result NotedStuck tt (λ k. refl)
    rename_verdict γ at b fs (leaf n x r) m = no_result NotedStuck tt (λ k. refl)

    test_verdict : (γ : Environment) (at : Span) (t : Test) (s : Core) (fs : Frames) (v : Hedge N) (m : M) (one fits : Bool) → is_tree v ≡ one → matches t v ≡ fits → Verdict d γ s fs v m → Verdict d γ (test at t s) fs v m
    test_verdict γ at t s fs v m false fits many e h = no_result NotedStuck tt (λ k. no_tree t (DoesNoted d γ s) fs v k m many)
    test_verdict γ at t s fs v m true false one misses h = derived v m (passes one misses)
    test_verdict γ at t s fs v m true true one fits h =
        elim h [
          | derived w n a ↦ derived w n (tests one fits a)
          | no_result o x f ↦ no_result o x (λ k. matched t (DoesNoted d γ s) fs v k m one fits ∙ f k)
        ]

    content_verdict : (γ : Environment) (at : Span) (s : Core) (fs : Frames) (n : N) (b : ℕ) (c : Hedge N) (m : M) → Verdict d γ s (Down n b ∷ fs) c m → Verdict d γ (children at s) fs (elem n b c nil) m
    content_verdict γ at s fs n b c m (derived w l a) = derived (elem n b w nil) l (enters a)
    content_verdict γ at s fs n b c m (no_result o x f) = no_result o x (λ k. f (λ w. k (elem n b w nil)))

    children_verdict : (γ : Environment) (at : Span) (s : Core) → Verdicts d γ s → (fs : Frames) (v : Hedge N) (m : M) → Verdict d γ (children at s) fs v m
    children_verdict γ at s h fs nil m = no_result NotedStuck tt (λ k. refl)
    children_verdict γ at s h fs (elem n b c nil) m = content_verdict γ at s fs n b c m (h (Down n b ∷ fs) c m)
    children_verdict γ at s h fs (elem n b c (elem n' b' c' r)) m = no_result NotedStuck tt (λ k. refl)
    children_verdict γ at s h fs (elem n b c (leaf n' x r)) m = no_result NotedStuck tt (λ k. refl)
    children_verdict γ at s h fs (leaf n x r) m = no_result NotedStuck tt (λ k. refl)

    left_verdict : (γ : Environment) (at : Span) (s : Core) (fs : Frames) (v : Hedge N) (m : M) → Verdict d γ s (Before v ∷ fs) nil m → Verdict d γ (left at s) fs v m
    left_verdict γ at s fs v m (derived u n a) = derived (join u v) n (goes_left a)
    left_verdict γ at s fs v m (no_result o x f) = no_result o x (λ k. f (λ u. k (join u v)))

    right_verdict : (γ : Environment) (at : Span) (s : Core) (fs : Frames) (v : Hedge N) (m : M) → Verdict d γ s (After v ∷ fs) nil m → Verdict d γ (right at s) fs v m
    right_verdict γ at s fs v m (derived u n a) = derived (join v u) n (goes_right a)
    right_verdict γ at s fs v m (no_result o x f) = no_result o x (λ k. f (λ u. k (join v u)))

    others_verdict : (γ : Environment) (s : Core) (fs : Frames) (done r : Hedge N) → ((d' : Hedge N) (n : M) → EachVerdict d γ s fs d' r n) → (m : M) (t : Hedge N) → Verdict d γ s (Each done r ∷ fs) t m →
        ((u w : Hedge N) (n o : M) → DerivesNoted notation procs d γ (Each done r ∷ fs) t m s u n → EachNoted notation procs d γ fs (join done u) r n s w o → EachNoted notation procs d γ fs done (join t r) m s w o) →
        ((k : Next) → DoesEach d γ s fs done (join t r) k m ≡ DoesNoted d γ s (Each done r ∷ fs) t (λ u. DoesEach d γ s fs (join done u) r k) m) → EachVerdict d γ s fs done (join t r) m
    others_verdict γ s fs done r h m t (derived u n a) rule does_first =
        elim (h (join done u) n) [
          | each_derived w o b ↦ each_derived w o (rule u w n o a b)
          | each_no_result o x f ↦ each_no_result o x (λ k. does_first k ∙ noted-does a (λ y. DoesEach d γ s fs (join done y) r k) ∙ f k)
        ]
    others_verdict γ s fs done r h m t (no_result o x f) rule does_first =
        each_no_result o x (λ k. does_first k ∙ f (λ y. DoesEach d γ s fs (join done y) r k))

    each_verdict : (γ : Environment) (s : Core) → Verdicts d γ s → (fs : Frames) (rest done : Hedge N) (m : M) → EachVerdict d γ s fs done rest m
    each_verdict γ s h fs nil done m = each_derived done m each_end
    each_verdict γ s h fs (elem n b c r) done m =
        others_verdict γ s fs done r (λ e o. each_verdict γ s h fs r e o) m (elem n b c nil) (h (Each done r ∷ fs) (elem n b c nil) m) (λ u w n o a b. each_elem a b) (λ k. refl)
    each_verdict γ s h fs (leaf n x r) done m =
        others_verdict γ s fs done r (λ e o. each_verdict γ s h fs r e o) m (leaf n x nil) (h (Each done r ∷ fs) (leaf n x nil) m) (λ u w n o a b. each_leaf a b) (λ k. refl)

    iter_verdict : (γ : Environment) (at : Span) (s : Core) (fs : Frames) (v : Hedge N) (m : M) → EachVerdict d γ s fs nil v m → Verdict d γ (iter at s) fs v m
    iter_verdict γ at s fs v m (each_derived w n a) = derived w n (iterates a)
    iter_verdict γ at s fs v m (each_no_result o x f) = no_result o x f

    abbrev CallVerdicts : Type 0
    CallVerdicts = (γ : Environment) (at : Span) (p : ℕ) (args : List Query) → Verdicts d γ (call at p args)

    core_verdict : CallVerdicts → (γ : Environment) (s : Core) → Verdicts d γ s
    core_verdict at_call γ (skip at) fs v m = derived v m skips
    core_verdict at_call γ (nothing at) fs v m = derived v m ends
    core_verdict at_call γ (both at s r) fs v m = both_verdict γ at s r fs v m (core_verdict at_call γ s fs v m) (λ fs u n. core_verdict at_call γ r fs u n)
    core_verdict at_call γ (choice at c s r) fs v m = choice_verdict γ at c s r fs v m (condition γ c) refl (core_verdict at_call γ s fs v m) (core_verdict at_call γ r fs v m)
    core_verdict at_call γ (binding at x q s) fs v m = binding_verdict γ at x q s fs v m (value γ q) refl (λ u. core_verdict at_call ((x, u) ∷ γ) s fs v m)
    core_verdict at_call γ (snapshot at x s) fs v m = snapshot_verdict γ at x s fs v m (core_verdict at_call ((x, erase v) ∷ γ) s fs v m)
    core_verdict at_call γ (insert at q) fs v m = insert_verdict γ at q fs v m (value γ q) refl
    core_verdict at_call γ (delete at) fs v m = derived nil (deletion notation fs v m) deletes
    core_verdict at_call γ (rename at n) fs v m = rename_verdict γ at n fs v m
    core_verdict at_call γ (test at t s) fs v m = test_verdict γ at t s fs v m (is_tree v) (matches t v) refl refl (core_verdict at_call γ s fs v m)
    core_verdict at_call γ (children at s) fs v m = children_verdict γ at s (λ fs u n. core_verdict at_call γ s fs u n) fs v m
    core_verdict at_call γ (left at s) fs v m = left_verdict γ at s fs v m (core_verdict at_call γ s (Before v ∷ fs) nil m)
    core_verdict at_call γ (right at s) fs v m = right_verdict γ at s fs v m (core_verdict at_call γ s (After v ∷ fs) nil m)
    core_verdict at_call γ (iter at s) fs v m = iter_verdict γ at s fs v m (each_verdict γ s (λ fs u n. core_verdict at_call γ s fs u n) fs v nil m)
    core_verdict at_call γ (call at p args) fs v m = at_call γ at p args fs v m

  -- calls, by how many are to go
  body_verdict : (d : ℕ) (γ δ : Environment) (at : Span) (p : ℕ) (args : List Query) (q : Proc) (fs : Frames) (v : Hedge N) (m : M) → proc_of procs p ≡ Some q → bound_to γ q.params args ≡ Some δ → Verdict d δ q.body fs v m → Verdict (suc d) γ (call at p args) fs v m
  body_verdict d γ δ at p args q fs v m e f (derived w n a) = derived w n (calls e f a)
  body_verdict d γ δ at p args q fs v m e f (no_result o x g) = no_result o x (λ k. called d γ δ p args q fs v k m e f ∙ g (λ w. k w))

  bound_verdict : (d : ℕ) (γ : Environment) (at : Span) (p : ℕ) (args : List Query) (q : Proc) (fs : Frames) (v : Hedge N) (m : M) (o : Option Environment) → proc_of procs p ≡ Some q → bound_to γ q.params args ≡ o → ((δ : Environment) → Verdict d δ q.body fs v m) →
      Verdict (suc d) γ (call at p args) fs v m
  bound_verdict d γ at p args q fs v m None e f h = no_result NotedStuck tt (λ k. no_arguments d γ p args q fs v k m e f)
  bound_verdict d γ at p args q fs v m (Some δ) e f h = body_verdict d γ δ at p args q fs v m e f (h δ)

  proc_verdict : (d : ℕ) (γ : Environment) (at : Span) (p : ℕ) (args : List Query) (fs : Frames) (v : Hedge N) (m : M) (o : Option Proc) → proc_of procs p ≡ o → ((δ : Environment) (s : Core) → Verdict d δ s fs v m) → Verdict (suc d) γ (call at p args) fs v m
  proc_verdict d γ at p args fs v m None e h = no_result NotedStuck tt (λ k. no_proc d γ p args fs v k m e)
  proc_verdict d γ at p args fs v m (Some q) e h = bound_verdict d γ at p args q fs v m (bound_to γ q.params args) e refl (λ δ. h δ q.body)

  call_verdict : (d : ℕ) → CallVerdicts d
  call_verdict zero γ at p args fs v m = no_result (NotedTooDeep at.from) tt (λ k. refl)
  call_verdict (suc d) γ at p args fs v m = proc_verdict d γ at p args fs v m (proc_of procs p) refl (λ δ s. core_verdict d (call_verdict d) δ s fs v m)

  verdict : (d : ℕ) (γ : Environment) (s : Core) → Verdicts d γ s
  verdict d γ s fs v m = core_verdict d (call_verdict d) γ s fs v m

  -- ---- the laws

  pub noted-gives : {d : ℕ} {γ : Environment} {fs : Frames} {v w : Hedge N} {m n : M} {s : Core} → DerivesNoted notation procs d γ fs v m s w n → noted_ending notation procs d γ s fs v m ≡ GivesNoted w n
  noted-gives a = noted-does a GivesNoted

  no_gift : {w : Hedge N} {n : M} (o : NotedEnding N M) → NoResult o → o ≡ GivesNoted w n → ⊥
  no_gift (GivesNoted x l) h e = h
  no_gift (NotedTooDeep place) h e = cc
  no_gift NotedStuck h e = cc

  pub gives-noted : (d : ℕ) (γ : Environment) (s : Core) (fs : Frames) (v w : Hedge N) (m n : M) → noted_ending notation procs d γ s fs v m ≡ GivesNoted w n → DerivesNoted notation procs d γ fs v m s w n
  gives-noted d γ s fs v w m n e = elim (verdict d γ s fs v m) [
    | derived x l a ↦ (let h : GivesNoted x l ≡ GivesNoted w n = sym (noted-gives a) ∙ e in
        let i : x ≡ w = cc in let j : l ≡ n = cc in
        subst (λ y. DerivesNoted notation procs d γ fs v m s y n) i (subst (λ y. DerivesNoted notation procs d γ fs v m s x y) j a))
    | no_result o h f ↦ absurd (no_gift o h (sym (f GivesNoted) ∙ e))
  ]

  pub noted_one : {d : ℕ} {γ : Environment} {fs : Frames} {v w x : Hedge N} {m n o : M} {s : Core} → DerivesNoted notation procs d γ fs v m s w n → DerivesNoted notation procs d γ fs v m s x o → (w ≡ x) × (n ≡ o)
  noted_one {w = w} {x} {n = n} {o} a b = let same : GivesNoted w n ≡ GivesNoted x o = sym (noted-gives a) ∙ noted-gives b in (cc, cc)
