-- What a statement does, as a function of what is done with its result: over forests with any note
-- on their nodes, and for an answer of any type. How a run over plain forests ends is one of them.
use Rattle.std.specs.Prelude.{ℕ, zero, suc, Bool, true, false, List, [], ◌∷◌, Option, Some, None, if◌then◌else◌}
use Rattle.flux_trees.specs.Hedge.{Hedge, Plain, nil, elem, leaf, join}
use Rattle.flux_trees.specs.Frame.{Frame, Down, Before, After, Each}
use Rattle.flux_calculus.specs.declared.ask.Test.{Test}
use Rattle.flux_calculus.specs.declared.ask.Span.{Span}
use Rattle.flux_calculus.specs.Tests.{is_tree, matches}
use Rattle.flux_calculus.specs.Query.{Query, Environment, value}
use Rattle.flux_calculus.specs.Core.{Core, skip, nothing, both, choice, binding, snapshot, insert, delete, rename, test, children, left, right, iter, call, Proc, Procs, proc_of}
use Rattle.flux_calculus.specs.Derives.{condition, bound_to}

-- how an answer is come to: what a step adds to it; the answer where a call is met with none left,
-- and where the statement doesn't fit the forest; what a variable holds of a forest; what an
-- insertion, a deletion and a renaming add, under frames, the innermost first
pub record Answers (N A : Type 0) : Type 0 where
  pub step : A → A
  pub too_deep : (place : ℕ) → A
  pub stuck : A
  pub seen : Hedge N → Plain
  pub inserted : List (Frame N) → Plain → (Hedge N → A) → A
  pub deleted : List (Frame N) → Hedge N → A → A
  pub renamed : (note : N) (from to : ℕ) → A → A

-- under frames, the innermost first, from a focus, with what is done with the result
abbrev pub Goes : Type 0 → Type 0 → Type 0
Goes N A = List (Frame N) → Hedge N → (Hedge N → A) → A

module _ {N A : Type 0} (ans : Answers N A) where
  abbrev pub on_truth : Option Bool → A → A → A
  on_truth None a b = ans.stuck
  on_truth (Some true) a b = a
  on_truth (Some false) a b = b

  abbrev pub on_value : Option Plain → (Plain → A) → A
  on_value None go = ans.stuck
  on_value (Some v) go = go v

  abbrev pub on_insert : Option Plain → Goes N A
  on_insert o fs nil k = on_value o (λ w. ans.inserted fs w k)
  on_insert o fs _ k = ans.stuck

  abbrev pub on_rename : ℕ → Goes N A
  on_rename n fs (elem m l c nil) k = ans.renamed m l n (k (elem m n c nil))
  on_rename n fs _ k = ans.stuck

  abbrev pub on_test : Test → Goes N A → Goes N A
  on_test t go fs v k =
      if is_tree v then (if matches t v then go fs v k else k v) else ans.stuck

  abbrev pub on_content : Goes N A → Goes N A
  on_content go fs (elem m n c nil) k = go (Down m n ∷ fs) c (λ w. ans.step (k (elem m n w nil)))
  on_content go fs _ k = ans.stuck

  -- on each of the trees still to come, behind the results so far
  abbrev pub on_each : Goes N A → List (Frame N) → (done rest : Hedge N) → (Hedge N → A) → A
  on_each go fs done nil k = ans.step (k done)
  on_each go fs done (elem m n c r) k =
      ans.step (go (Each done r ∷ fs) (elem m n c nil) (λ w. on_each go fs (join done w) r k))
  on_each go fs done (leaf m x r) k =
      ans.step (go (Each done r ∷ fs) (leaf m x nil) (λ w. on_each go fs (join done w) r k))

  -- what a call does: in an environment, with its span, its procedure and its arguments
  abbrev pub Calls : Type 0
  Calls = Environment → Span → ℕ → List Query → Goes N A

  -- what a statement does in an environment
  abbrev pub goes : Calls → Environment → Core → Goes N A
  goes go γ (skip at) fs v k = ans.step (k v)
  goes go γ (nothing at) fs v k = ans.step (k v)
  goes go γ (both at s r) fs v k = ans.step (goes go γ s fs v (λ w. goes go γ r fs w k))
  goes go γ (choice at c s r) fs v k =
      ans.step (on_truth (condition γ c) (goes go γ s fs v k) (goes go γ r fs v k))
  goes go γ (binding at x q s) fs v k =
      ans.step (on_value (value γ q) (λ u. goes go ((x, u) ∷ γ) s fs v (λ w. ans.step (k w))))
  goes go γ (snapshot at x s) fs v k =
      ans.step (goes go ((x, ans.seen v) ∷ γ) s fs v (λ w. ans.step (k w)))
  goes go γ (insert at q) fs v k = ans.step (on_insert (value γ q) fs v k)
  goes go γ (delete at) fs v k = ans.step (ans.deleted fs v (k nil))
  goes go γ (rename at n) fs v k = ans.step (on_rename n fs v k)
  goes go γ (test at t s) fs v k = ans.step (on_test t (goes go γ s) fs v k)
  goes go γ (children at s) fs v k = ans.step (on_content (goes go γ s) fs v k)
  goes go γ (left at s) fs v k =
      ans.step (goes go γ s (Before v ∷ fs) nil (λ w. ans.step (k (join w v))))
  goes go γ (right at s) fs v k =
      ans.step (goes go γ s (After v ∷ fs) nil (λ w. ans.step (k (join v w))))
  goes go γ (iter at s) fs v k = on_each (goes go γ s) fs nil v k
  goes go γ (call at p args) fs v k = go γ at p args fs v k

  abbrev pub on_bound : Option Environment → (Environment → Goes N A) → Goes N A
  on_bound None go fs v k = ans.stuck
  on_bound (Some δ) go fs v k = ans.step (go δ fs v (λ w. ans.step (k w)))

  abbrev pub on_proc : Option Proc → Environment → List Query →
      (Environment → Core → Goes N A) → Goes N A
  on_proc None γ args go fs v k = ans.stuck
  on_proc (Some q) γ args go fs v k = on_bound (bound_to γ q.params args) (λ δ. go δ q.body) fs v k

  -- calls with so many to go. The recursion by their number stands outside that by the statement
  abbrev pub calls_at : Procs → ℕ → Calls
  calls_at procs zero γ at p args fs v k = ans.too_deep at.from
  calls_at procs (suc d) γ at p args fs v k =
      on_proc (proc_of procs p) γ args (goes (calls_at procs d)) fs v k

-- what a statement does with so many calls to go
abbrev pub does : {N A : Type 0} → Answers N A → Procs → ℕ → Environment → Core → Goes N A
does ans procs d γ s fs v k = goes ans (calls_at ans procs d) γ s fs v k

-- how a run ends: with a forest, at a call with none left, or with a forest that doesn't fit
pub data Ending : Type 0 where
  Gives : Plain → Ending
  TooDeep : (place : ℕ) → Ending
  Stuck : Ending

-- over plain forests, steps and edits leave no trace
abbrev pub endings : Answers (Unit {0}) Ending
endings = record {
  step = λ o. o;
  too_deep = TooDeep;
  stuck = Stuck;
  seen = λ v. v;
  inserted = λ fs w k. k w;
  deleted = λ fs v o. o;
  renamed = λ m a n o. o;
}

-- how a statement ends on a forest
abbrev pub ending : Procs → ℕ → Environment → Core → Plain → Ending
ending procs d γ s v = does endings procs d γ s [] v Gives
