-- The judgement of updates, after FLUX: what a statement makes of a forest with so many calls to
-- go, a rule for each case; and where it meets a call with none left.
use Rattle.std.specs.Prelude.{◌≡◌, ℕ, zero, suc, Bool, true, false, List, [], ◌∷◌, Option, Some, None}
use Rattle.flux_trees.specs.Hedge.{Plain, nil, elem, join, trees}
use Rattle.flux_calculus.specs.declared.ask.Test.{Test}
use Rattle.flux_calculus.specs.declared.ask.Var.{Var}
use Rattle.flux_calculus.specs.declared.ask.Span.{Span}
use Rattle.flux_calculus.specs.Tests.{is_tree, matches}
use Rattle.flux_calculus.specs.Query.{Query, Environment, value, truth_of}
use Rattle.flux_calculus.specs.Typing.{Context}
use Rattle.flux_calculus.specs.Core.{Core, skip, nothing, both, choice, binding, snapshot, insert, delete, rename, test, children, left, right, iter, call, Proc, Procs, proc_of}

abbrev pub truth_in : Option Plain → Option Bool
truth_in None = None
truth_in (Some v) = truth_of v

-- the truth value of a condition, if it has one
abbrev pub condition : Environment → Query → Option Bool
condition γ c = truth_in (value γ c)

abbrev pub bound_first : Var → Option Plain → Option Environment → Option Environment
bound_first x None o = None
bound_first x (Some v) None = None
bound_first x (Some v) (Some δ) = Some ((x, v) ∷ δ)

-- the parameters alone, bound to the values of the arguments, where each has one
abbrev pub bound_to : Environment → Context → List Query → Option Environment
bound_to γ [] [] = Some []
bound_to γ [] (q ∷ qs) = None
bound_to γ (p ∷ ps) [] = None
bound_to γ (p ∷ ps) (q ∷ qs) = bound_first p.0 (value γ q) (bound_to γ ps qs)

mutual
  -- Derives procs d γ v s w: with d calls to go, in the environment γ, the statement s makes w of v
  pub data Derives (procs : Procs) : ℕ → Environment → Plain → Core → Plain → Type 0 where
    -- the forest stays
    skips : {d : ℕ} {γ : Environment} {v : Plain} {at : Span} → Derives procs d γ v (skip at) v
    -- each statement on the result of the one before
    ends : {d : ℕ} {γ : Environment} {v : Plain} {at : Span} → Derives procs d γ v (nothing at) v
    follows : {d : ℕ} {γ : Environment} {v u w : Plain} {at : Span} {s r : Core} →
        Derives procs d γ v s u → Derives procs d γ u r w → Derives procs d γ v (both at s r) w
    -- as the condition says
    takes_yes : {d : ℕ} {γ : Environment} {v w : Plain} {at : Span} {c : Query} {s r : Core} →
        condition γ c ≡ Some true → Derives procs d γ v s w →
        Derives procs d γ v (choice at c s r) w
    takes_no : {d : ℕ} {γ : Environment} {v w : Plain} {at : Span} {c : Query} {s r : Core} →
        condition γ c ≡ Some false → Derives procs d γ v r w →
        Derives procs d γ v (choice at c s r) w
    -- with the variable bound to the value of the query, to the forest
    binds : {d : ℕ} {γ : Environment} {v u w : Plain} {at : Span} {x : Var} {q : Query} {s : Core} →
        value γ q ≡ Some u → Derives procs d ((x, u) ∷ γ) v s w →
        Derives procs d γ v (binding at x q s) w
    notes : {d : ℕ} {γ : Environment} {v w : Plain} {at : Span} {x : Var} {s : Core} →
        Derives procs d ((x, v) ∷ γ) v s w → Derives procs d γ v (snapshot at x s) w
    -- the value of the query, where the forest is empty
    inserts : {d : ℕ} {γ : Environment} {w : Plain} {at : Span} {q : Query} →
        value γ q ≡ Some w → Derives procs d γ nil (insert at q) w
    -- nothing is left
    deletes : {d : ℕ} {γ : Environment} {v : Plain} {at : Span} →
        Derives procs d γ v (delete at) nil
    -- one element gets the label, and keeps its content
    renames : {d : ℕ} {γ : Environment} {at : Span} {m n : ℕ} {c : Plain} →
        Derives procs d γ (elem tt m c nil) (rename at n) (elem tt n c nil)
    -- the statement on a tree that passes the test; a tree that doesn't pass it stays
    tests : {d : ℕ} {γ : Environment} {v w : Plain} {at : Span} {t : Test} {s : Core} →
        is_tree v ≡ true → matches t v ≡ true → Derives procs d γ v s w →
        Derives procs d γ v (test at t s) w
    passes : {d : ℕ} {γ : Environment} {v : Plain} {at : Span} {t : Test} {s : Core} →
        is_tree v ≡ true → matches t v ≡ false → Derives procs d γ v (test at t s) v
    -- one element stays round what its content becomes
    enters : {d : ℕ} {γ : Environment} {at : Span} {n : ℕ} {c w : Plain} {s : Core} →
        Derives procs d γ c s w →
        Derives procs d γ (elem tt n c nil) (children at s) (elem tt n w nil)
    -- what the statement makes of the empty forest stands before the forest, or behind it
    goes_left : {d : ℕ} {γ : Environment} {at : Span} {v u w : Plain} {s : Core} →
        Derives procs d γ nil s u → join u v ≡ w → Derives procs d γ v (left at s) w
    goes_right : {d : ℕ} {γ : Environment} {at : Span} {v u w : Plain} {s : Core} →
        Derives procs d γ nil s u → join v u ≡ w → Derives procs d γ v (right at s) w
    -- the statement on each tree
    iterates : {d : ℕ} {γ : Environment} {at : Span} {v w : Plain} {s : Core} →
        DerivesEach procs d γ (trees v) s w → Derives procs d γ v (iter at s) w
    -- the body with a call less to go, where one is left
    calls : {d : ℕ} {γ δ : Environment} {at : Span} {p : ℕ} {args : List Query} {q : Proc} →
        {v w : Plain} → proc_of procs p ≡ Some q → bound_to γ q.params args ≡ Some δ →
        Derives procs d δ v q.body w → Derives procs (suc d) γ v (call at p args) w

  -- DerivesEach procs d γ vs s w: what s makes of each of vs, from left to right, is w when joined
  pub data DerivesEach (procs : Procs) : ℕ → Environment → List Plain → Core → Plain → Type 0 where
    each_end : {d : ℕ} {γ : Environment} {s : Core} → DerivesEach procs d γ [] s nil
    each_more : {d : ℕ} {γ : Environment} {v u r w : Plain} {vs : List Plain} {s : Core} →
        Derives procs d γ v s u → DerivesEach procs d γ vs s r → join u r ≡ w →
        DerivesEach procs d γ (v ∷ vs) s w

mutual
  -- Exceeds procs d γ v s place: with d calls to go, in the environment γ, the statement s on v
  -- meets a call with none left, and the first such call stands at this place
  pub data Exceeds (procs : Procs) : ℕ → Environment → Plain → Core → ℕ → Type 0 where
    -- a call with none to go; the body of a call, with one less to go
    here : {γ : Environment} {v : Plain} {at : Span} {p : ℕ} {args : List Query} →
        Exceeds procs zero γ v (call at p args) at.from
    in_call : {d : ℕ} {γ δ : Environment} {at : Span} {p place : ℕ} {args : List Query} →
        {q : Proc} {v : Plain} → proc_of procs p ≡ Some q → bound_to γ q.params args ≡ Some δ →
        Exceeds procs d δ v q.body place → Exceeds procs (suc d) γ v (call at p args) place
    -- the first statement, or those behind it on what it makes
    in_first : {d : ℕ} {γ : Environment} {v : Plain} {at : Span} {s r : Core} {place : ℕ} →
        Exceeds procs d γ v s place → Exceeds procs d γ v (both at s r) place
    in_others : {d : ℕ} {γ : Environment} {v u : Plain} {at : Span} {s r : Core} {place : ℕ} →
        Derives procs d γ v s u → Exceeds procs d γ u r place →
        Exceeds procs d γ v (both at s r) place
    -- the part that is taken
    in_yes : {d : ℕ} {γ : Environment} {v : Plain} {at : Span} {c : Query} {s r : Core} →
        {place : ℕ} → condition γ c ≡ Some true → Exceeds procs d γ v s place →
        Exceeds procs d γ v (choice at c s r) place
    in_no : {d : ℕ} {γ : Environment} {v : Plain} {at : Span} {c : Query} {s r : Core} →
        {place : ℕ} → condition γ c ≡ Some false → Exceeds procs d γ v r place →
        Exceeds procs d γ v (choice at c s r) place
    in_binding : {d : ℕ} {γ : Environment} {v u : Plain} {at : Span} {x : Var} {q : Query} →
        {s : Core} {place : ℕ} → value γ q ≡ Some u → Exceeds procs d ((x, u) ∷ γ) v s place →
        Exceeds procs d γ v (binding at x q s) place
    in_snapshot : {d : ℕ} {γ : Environment} {v : Plain} {at : Span} {x : Var} {s : Core} →
        {place : ℕ} → Exceeds procs d ((x, v) ∷ γ) v s place →
        Exceeds procs d γ v (snapshot at x s) place
    in_test : {d : ℕ} {γ : Environment} {v : Plain} {at : Span} {t : Test} {s : Core} {place : ℕ} →
        is_tree v ≡ true → matches t v ≡ true → Exceeds procs d γ v s place →
        Exceeds procs d γ v (test at t s) place
    in_children : {d : ℕ} {γ : Environment} {at : Span} {n : ℕ} {c : Plain} {s : Core} {place : ℕ} →
        Exceeds procs d γ c s place → Exceeds procs d γ (elem tt n c nil) (children at s) place
    in_left : {d : ℕ} {γ : Environment} {at : Span} {v : Plain} {s : Core} {place : ℕ} →
        Exceeds procs d γ nil s place → Exceeds procs d γ v (left at s) place
    in_right : {d : ℕ} {γ : Environment} {at : Span} {v : Plain} {s : Core} {place : ℕ} →
        Exceeds procs d γ nil s place → Exceeds procs d γ v (right at s) place
    in_iter : {d : ℕ} {γ : Environment} {at : Span} {v : Plain} {s : Core} {place : ℕ} →
        ExceedsEach procs d γ (trees v) s place → Exceeds procs d γ v (iter at s) place

  -- ExceedsEach procs d γ vs s place: so does s on the first of vs on which it does, after those
  -- before it are done
  pub data ExceedsEach (procs : Procs) : ℕ → Environment → List Plain → Core → ℕ → Type 0 where
    in_tree : {d : ℕ} {γ : Environment} {v : Plain} {vs : List Plain} {s : Core} {place : ℕ} →
        Exceeds procs d γ v s place → ExceedsEach procs d γ (v ∷ vs) s place
    in_later : {d : ℕ} {γ : Environment} {v u : Plain} {vs : List Plain} {s : Core} {place : ℕ} →
        Derives procs d γ v s u → ExceedsEach procs d γ vs s place →
        ExceedsEach procs d γ (v ∷ vs) s place
