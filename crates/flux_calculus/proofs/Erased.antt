-- Without its notes, what a statement makes of a forest is what it makes of the plain forest.
use Rattle.std.proofs.Common.{◌≡◌, ◌⊎◌, inl, inr, ◌∙◌, refl, sym, ap, ap₂, subst, ℕ, zero, suc, Bool, true, false, List, [], ◌∷◌, Option, Some, None, if◌then◌else◌}
use Rattle.flux_atom.specs.declared.atom.Atom.{Atom}
use Rattle.flux_atom.specs.Atom.{kind_of}
use Rattle.flux_trees.specs.Hedge.{Hedge, Plain, nil, elem, leaf, join, erase}
use Rattle.flux_trees.specs.Frame.{Frame, Down, Before, After, Each}
use Rattle.flux_trees.proofs.HedgeLaws.{erase-join}
use Rattle.flux_calculus.specs.declared.ask.Test.{Test}
use Rattle.flux_calculus.specs.declared.ask.Span.{Span}
use Rattle.flux_calculus.specs.Tests.{is_tree, matches, element_matches, kind_matches}
use Rattle.flux_calculus.specs.Query.{Query, Environment, value}
use Rattle.flux_calculus.specs.Core.{Core, skip, nothing, both, choice, binding, snapshot, insert, delete, rename, test, children, left, right, iter, call, Proc, Procs, proc_of}
use Rattle.flux_calculus.specs.Derives.{condition, bound_to, Derives, Exceeds}
use Rattle.flux_calculus.specs.Ending.{Goes, Calls, on_truth, on_value, on_insert, on_rename, on_test, on_content, on_each, goes, on_bound, on_proc, calls_at, does, Ending, Gives, TooDeep, Stuck, endings, ending}
use Rattle.flux_calculus.specs.Notation.{Notation, insertion, deletion}
use Rattle.flux_calculus.specs.Noted.{DerivesNoted}
use Rattle.flux_calculus.specs.NotedEnding.{NotedEnding, GivesNoted, NotedTooDeep, NotedStuck, noted_endings, noted_ending, erase_ending}
use Rattle.flux_calculus.proofs.Agree.{derives-does, exceeds-does, gives-derives, deep-exceeds}
use Rattle.flux_calculus.proofs.NotedAgree.{noted-gives, gives-noted}

module _ {N M : Type 0} (notation : Notation N M) where
  abbrev Told : Type 0
  Told = M → NotedEnding N M

  abbrev PlainGoes : Type 0
  PlainGoes = Goes (Unit {0}) Ending

  -- two ways to go on have the same ending, but for notes
  abbrev Follows : (Hedge N → Told) → (Plain → Ending) → Type 0
  Follows k j = (w : Hedge N) (m : M) → erase_ending (k w m) ≡ j (erase w)

  abbrev Alike : Goes N Told → PlainGoes → Type 0
  Alike go to =
      (fs : List (Frame N)) (gs : List (Frame (Unit {0}))) (v : Hedge N) (k : Hedge N → Told) (j : Plain → Ending) → Follows k j → (m : M) → erase_ending (go fs v k m) ≡ to gs (erase v) j

  pub insertion-same : (fs : List (Frame N)) (w : Plain) (m : M) → erase (insertion notation fs w m).0 ≡ w
  insertion-same fs nil m = refl
  insertion-same fs (elem n a c r) m = notation.put_same fs (elem n a c r) m
  insertion-same fs (leaf n x r) m = notation.put_same fs (leaf n x r) m

  truth_alike : (b : Option Bool) (f g : Told) (o p : Ending) (m : M) → erase_ending (f m) ≡ o → erase_ending (g m) ≡ p → erase_ending (on_truth (noted_endings notation) b f g m) ≡ on_truth endings b o p
  truth_alike None f g o p m e h = refl
  truth_alike (Some true) f g o p m e h = e
  truth_alike (Some false) f g o p m e h = h

  value_alike : (o : Option Plain) (go : Plain → Told) (to : Plain → Ending) (m : M) → ((u : Plain) → erase_ending (go u m) ≡ to u) → erase_ending (on_value (noted_endings notation) o go m) ≡ on_value endings o to
  value_alike None go to m h = refl
  value_alike (Some u) go to m h = h u

  insert_alike : (o : Option Plain) → Alike (on_insert (noted_endings notation) o) (on_insert endings o)
  insert_alike o fs gs nil k j h m =
      value_alike o (λ w m. k (insertion notation fs w m).0 (insertion notation fs w m).1) (λ w. j w) m
      (λ u. h (insertion notation fs u m).0 (insertion notation fs u m).1 ∙ ap j (insertion-same fs u m))
  insert_alike o fs gs (elem n a c r) k j h m = refl
  insert_alike o fs gs (leaf n x r) k j h m = refl

  rename_alike : (b : ℕ) → Alike (on_rename (noted_endings notation) b) (on_rename endings b)
  rename_alike b fs gs nil k j h m = refl
  rename_alike b fs gs (elem n a c nil) k j h m = h (elem n b c nil) (notation.relabelled n a b m)
  rename_alike b fs gs (elem n a c (elem n' a' c' r)) k j h m = refl
  rename_alike b fs gs (elem n a c (leaf n' x r)) k j h m = refl
  rename_alike b fs gs (leaf n x r) k j h m = refl

  branch_alike : (b : Bool) (f g : Told) (o p : Ending) (m : M) → erase_ending (f m) ≡ o → erase_ending (g m) ≡ p → erase_ending ((if b then f else g) m) ≡ (if b then o else p)
  branch_alike true f g o p m e h = e
  branch_alike false f g o p m e h = h

  test_alike : (t : Test) (go : Goes N Told) (to : PlainGoes) → Alike go to → Alike (on_test (noted_endings notation) t go) (on_test endings t to)
  test_alike t go to i fs gs nil k j h m = refl
  test_alike t go to i fs gs (elem n a c nil) k j h m =
      branch_alike (element_matches t a) (go fs (elem n a c nil) k) (k (elem n a c nil)) (to gs (elem tt a (erase c) nil) j) (j (elem tt a (erase c) nil)) m (i fs gs (elem n a c nil) k j h m) (h (elem n a c nil) m)
  test_alike t go to i fs gs (elem n a c (elem n' a' c' r)) k j h m = refl
  test_alike t go to i fs gs (elem n a c (leaf n' x r)) k j h m = refl
  test_alike t go to i fs gs (leaf n x nil) k j h m =
      branch_alike (kind_matches t (kind_of x)) (go fs (leaf n x nil) k) (k (leaf n x nil)) (to gs (leaf tt x nil) j) (j (leaf tt x nil)) m (i fs gs (leaf n x nil) k j h m) (h (leaf n x nil) m)
  test_alike t go to i fs gs (leaf n x (elem n' a' c' r)) k j h m = refl
  test_alike t go to i fs gs (leaf n x (leaf n' y r)) k j h m = refl

  content_alike : (go : Goes N Told) (to : PlainGoes) → Alike go to → Alike (on_content (noted_endings notation) go) (on_content endings to)
  content_alike go to i fs gs nil k j h m = refl
  content_alike go to i fs gs (elem n a c nil) k j h m =
      i (Down n a ∷ fs) (Down tt a ∷ gs) c (λ w. k (elem n a w nil)) (λ w. j (elem tt a w nil)) (λ w l. h (elem n a w nil) l) m
  content_alike go to i fs gs (elem n a c (elem n' a' c' r)) k j h m = refl
  content_alike go to i fs gs (elem n a c (leaf n' x r)) k j h m = refl
  content_alike go to i fs gs (leaf n x r) k j h m = refl

  each_alike : (go : Goes N Told) (to : PlainGoes) → Alike go to → (rest done : Hedge N) (fs : List (Frame N)) (gs : List (Frame (Unit {0}))) (k : Hedge N → Told) (j : Plain → Ending) →
      Follows k j → (m : M) → erase_ending (on_each (noted_endings notation) go fs done rest k m) ≡ on_each endings to gs (erase done) (erase rest) j
  each_alike go to i nil done fs gs k j h m = h done m
  each_alike go to i (elem n a c r) done fs gs k j h m =
      i (Each done r ∷ fs) (Each (erase done) (erase r) ∷ gs) (elem n a c nil) (λ w. on_each (noted_endings notation) go fs (join done w) r k) (λ w. on_each endings to gs (join (erase done) w) (erase r) j)
      (λ w l. each_alike go to i r (join done w) fs gs k j h l ∙ ap (λ x. on_each endings to gs x (erase r) j) (erase-join done w)) m
  each_alike go to i (leaf n y r) done fs gs k j h m =
      i (Each done r ∷ fs) (Each (erase done) (erase r) ∷ gs) (leaf n y nil) (λ w. on_each (noted_endings notation) go fs (join done w) r k) (λ w. on_each endings to gs (join (erase done) w) (erase r) j)
      (λ w l. each_alike go to i r (join done w) fs gs k j h l ∙ ap (λ x. on_each endings to gs x (erase r) j) (erase-join done w)) m

  module _ (go : Calls (noted_endings notation)) (to : Calls endings) (at_call : (γ : Environment) (at : Span) (p : ℕ) (args : List Query) → Alike (go γ at p args) (to γ at p args)) where
    goes_alike : (γ : Environment) (s : Core) → Alike (goes (noted_endings notation) go γ s) (goes endings to γ s)
    goes_alike γ (skip at) fs gs v k j h m = h v m
    goes_alike γ (nothing at) fs gs v k j h m = h v m
    goes_alike γ (both at s r) fs gs v k j h m =
        goes_alike γ s fs gs v (λ w. goes (noted_endings notation) go γ r fs w k) (λ w. goes endings to γ r gs w j) (λ w l. goes_alike γ r fs gs w k j h l) m
    goes_alike γ (choice at c s r) fs gs v k j h m =
        truth_alike (condition γ c) (goes (noted_endings notation) go γ s fs v k) (goes (noted_endings notation) go γ r fs v k) (goes endings to γ s gs (erase v) j) (goes endings to γ r gs (erase v) j) m (goes_alike γ s fs gs v k j h m) (goes_alike γ r fs gs v k j h m)
    goes_alike γ (binding at x q s) fs gs v k j h m =
        value_alike (value γ q) (λ u. goes (noted_endings notation) go ((x, u) ∷ γ) s fs v (λ w. k w)) (λ u. goes endings to ((x, u) ∷ γ) s gs (erase v) (λ w. j w)) m (λ u. goes_alike ((x, u) ∷ γ) s fs gs v (λ w. k w) (λ w. j w) (λ w l. h w l) m)
    goes_alike γ (snapshot at x s) fs gs v k j h m = goes_alike ((x, erase v) ∷ γ) s fs gs v (λ w. k w) (λ w. j w) (λ w l. h w l) m
    goes_alike γ (insert at q) fs gs v k j h m = insert_alike (value γ q) fs gs v k j h m
    goes_alike γ (delete at) fs gs v k j h m = h nil (deletion notation fs v m)
    goes_alike γ (rename at b) fs gs v k j h m = rename_alike b fs gs v k j h m
    goes_alike γ (test at t s) fs gs v k j h m = test_alike t (goes (noted_endings notation) go γ s) (goes endings to γ s) (λ fs gs v k j h m. goes_alike γ s fs gs v k j h m) fs gs v k j h m
    goes_alike γ (children at s) fs gs v k j h m = content_alike (goes (noted_endings notation) go γ s) (goes endings to γ s) (λ fs gs v k j h m. goes_alike γ s fs gs v k j h m) fs gs v k j h m
    goes_alike γ (left at s) fs gs v k j h m =
        goes_alike γ s (Before v ∷ fs) (Before (erase v) ∷ gs) nil (λ w. k (join w v)) (λ w. j (join w (erase v))) (λ w l. h (join w v) l ∙ ap j (erase-join w v)) m
    goes_alike γ (right at s) fs gs v k j h m =
        goes_alike γ s (After v ∷ fs) (After (erase v) ∷ gs) nil (λ w. k (join v w)) (λ w. j (join (erase v) w)) (λ w l. h (join v w) l ∙ ap j (erase-join v w)) m
    goes_alike γ (iter at s) fs gs v k j h m = each_alike (goes (noted_endings notation) go γ s) (goes endings to γ s) (λ fs gs v k j h m. goes_alike γ s fs gs v k j h m) v nil fs gs k j h m
    goes_alike γ (call at p args) fs gs v k j h m = at_call γ at p args fs gs v k j h m

  bound_alike : (o : Option Environment) (go : Environment → Goes N Told) (to : Environment → PlainGoes) → ((δ : Environment) → Alike (go δ) (to δ)) → Alike (on_bound (noted_endings notation) o go) (on_bound endings o to)
  bound_alike None go to i fs gs v k j h m = refl
  bound_alike (Some δ) go to i fs gs v k j h m = i δ fs gs v (λ w. k w) (λ w. j w) (λ w l. h w l) m

  proc_alike : (o : Option Proc) (γ : Environment) (args : List Query) (go : Environment → Core → Goes N Told) (to : Environment → Core → PlainGoes) → ((δ : Environment) (s : Core) → Alike (go δ s) (to δ s)) → Alike (on_proc (noted_endings notation) o γ args go) (on_proc endings o γ args to)
  proc_alike None γ args go to i fs gs v k j h m = refl
  proc_alike (Some q) γ args go to i fs gs v k j h m = bound_alike (bound_to γ q.params args) (λ δ. go δ q.body) (λ δ. to δ q.body) (λ δ. i δ q.body) fs gs v k j h m

  call_alike : (procs : Procs) (d : ℕ) (γ : Environment) (at : Span) (p : ℕ) (args : List Query) → Alike (calls_at (noted_endings notation) procs d γ at p args) (calls_at endings procs d γ at p args)
  call_alike procs zero γ at p args fs gs v k j h m = refl
  call_alike procs (suc d) γ at p args fs gs v k j h m =
      proc_alike (proc_of procs p) γ args (goes (noted_endings notation) (calls_at (noted_endings notation) procs d)) (goes endings (calls_at endings procs d)) (λ δ s. goes_alike (calls_at (noted_endings notation) procs d) (calls_at endings procs d) (call_alike procs d) δ s) fs gs v k j h m

  -- ---- the laws

  pub erased : (procs : Procs) (d : ℕ) (γ : Environment) (s : Core) (fs : List (Frame N)) (v : Hedge N) (m : M) → erase_ending (noted_ending notation procs d γ s fs v m) ≡ ending procs d γ s (erase v)
  erased procs d γ s fs v m = goes_alike (calls_at (noted_endings notation) procs d) (calls_at endings procs d) (call_alike procs d) γ s fs [] v GivesNoted Gives (λ w l. refl) m

  pub noted-derives : {procs : Procs} {d : ℕ} {γ : Environment} {fs : List (Frame N)} {v w : Hedge N} {m n : M} {s : Core} → DerivesNoted notation procs d γ fs v m s w n → Derives procs d γ (erase v) s (erase w)
  noted-derives {procs} {d} {γ} {fs} {v} {w} {m} {n} {s} a =
      gives-derives procs d γ s (erase v) (erase w) (sym (erased procs d γ s fs v m) ∙ ap erase_ending (noted-gives notation procs a))

  gives_of : (o : NotedEnding N M) (x : Plain) → erase_ending o ≡ Gives x → (w : Hedge N) × (n : M) × (o ≡ GivesNoted w n) × (erase w ≡ x)
  gives_of (GivesNoted w n) x e = (w, n, refl, cc)
  gives_of (NotedTooDeep place) x e = cc
  gives_of NotedStuck x e = cc

  pub derives-noted : {procs : Procs} {d : ℕ} {γ : Environment} {v : Hedge N} {x : Plain} {s : Core} → Derives procs d γ (erase v) s x → (fs : List (Frame N)) (m : M) →
      (w : Hedge N) × (n : M) × DerivesNoted notation procs d γ fs v m s w n × (erase w ≡ x)
  derives-noted {procs} {d} {γ} {v} {x} {s} a fs m =
      let g : (w : Hedge N) × (n : M) × (noted_ending notation procs d γ s fs v m ≡ GivesNoted w n) × (erase w ≡ x) = gives_of (noted_ending notation procs d γ s fs v m) x (erased procs d γ s fs v m ∙ derives-does a [] Gives) in
      (g.0, g.1, gives-noted notation procs d γ s fs v g.0 m g.1 g.2, g.3)

  pub noted-deep : (procs : Procs) (d : ℕ) (γ : Environment) (s : Core) (fs : List (Frame N)) (v : Hedge N) (m : M) (place : ℕ) → noted_ending notation procs d γ s fs v m ≡ NotedTooDeep place → Exceeds procs d γ (erase v) s place
  noted-deep procs d γ s fs v m place e = deep-exceeds procs d γ s (erase v) place (sym (erased procs d γ s fs v m) ∙ ap erase_ending e)

  pub noted-never-stuck : (procs : Procs) (d : ℕ) (γ : Environment) (s : Core) (fs : List (Frame N)) (v : Hedge N) (m : M) → ((w : Plain) × Derives procs d γ (erase v) s w) ⊎ ((place : ℕ) × Exceeds procs d γ (erase v) s place) → noted_ending notation procs d γ s fs v m ≡ NotedStuck → ⊥
  noted-never-stuck procs d γ s fs v m (inl a) e = let h : Stuck ≡ Gives a.0 = ap erase_ending (sym e) ∙ erased procs d γ s fs v m ∙ derives-does a.1 [] Gives in cc
  noted-never-stuck procs d γ s fs v m (inr a) e = let h : Stuck ≡ TooDeep a.0 = ap erase_ending (sym e) ∙ erased procs d γ s fs v m ∙ exceeds-does a.1 [] Gives in cc
