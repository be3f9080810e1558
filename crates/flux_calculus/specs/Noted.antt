-- The judgement of updates over forests with notes on their nodes: by the rules of the judgement
-- over plain forests, with the frames around the focus and the marks beside the forest.
use Rattle.std.specs.Prelude.{◌≡◌, ℕ, suc, true, false, List, [], ◌∷◌, Option, Some}
use Rattle.flux_atom.specs.declared.atom.Atom.{Atom}
use Rattle.flux_trees.specs.Hedge.{Hedge, Plain, nil, elem, leaf, join, erase}
use Rattle.flux_trees.specs.Frame.{Frame, Down, Before, After, Each}
use Rattle.flux_trees.specs.Edits.{Supply, Edit}
use Rattle.flux_calculus.specs.declared.ask.Test.{Test}
use Rattle.flux_calculus.specs.declared.ask.Var.{Var}
use Rattle.flux_calculus.specs.declared.ask.Span.{Span}
use Rattle.flux_calculus.specs.Tests.{is_tree, matches}
use Rattle.flux_calculus.specs.Query.{Query, Environment, value}
use Rattle.flux_calculus.specs.Core.{Core, skip, nothing, both, choice, binding, snapshot, insert, delete, rename, test, children, left, right, iter, call, Proc, Procs, proc_of}
use Rattle.flux_calculus.specs.Derives.{condition, bound_to}
use Rattle.flux_calculus.specs.Notation.{Notation, insertion, deletion, Numbering, numbering, unedited}

module _ {N M : Type 0} (notation : Notation N M) (procs : Procs) where
  mutual
    -- DerivesNoted notation procs d γ fs v m s w n: with d calls to go, in the environment γ and
    -- under the frames fs, the innermost first, the statement s makes w of v, and of the marks m
    -- the marks n
    pub data DerivesNoted : ℕ → Environment → List (Frame N) → Hedge N → M → Core → Hedge N → M →
        Type 0 where
      -- the forest stays
      skips : {d : ℕ} {γ : Environment} {fs : List (Frame N)} {v : Hedge N} {m : M} {at : Span} →
          DerivesNoted d γ fs v m (skip at) v m
      -- each statement on the result of the one before
      ends : {d : ℕ} {γ : Environment} {fs : List (Frame N)} {v : Hedge N} {m : M} {at : Span} →
          DerivesNoted d γ fs v m (nothing at) v m
      follows : {d : ℕ} {γ : Environment} {fs : List (Frame N)} {v u w : Hedge N} {m n o : M} →
          {at : Span} {s r : Core} → DerivesNoted d γ fs v m s u n →
          DerivesNoted d γ fs u n r w o → DerivesNoted d γ fs v m (both at s r) w o
      -- as the condition says
      takes_yes : {d : ℕ} {γ : Environment} {fs : List (Frame N)} {v w : Hedge N} {m n : M} →
          {at : Span} {c : Query} {s r : Core} → condition γ c ≡ Some true →
          DerivesNoted d γ fs v m s w n → DerivesNoted d γ fs v m (choice at c s r) w n
      takes_no : {d : ℕ} {γ : Environment} {fs : List (Frame N)} {v w : Hedge N} {m n : M} →
          {at : Span} {c : Query} {s r : Core} → condition γ c ≡ Some false →
          DerivesNoted d γ fs v m r w n → DerivesNoted d γ fs v m (choice at c s r) w n
      -- with the variable bound to the value of the query, to the forest without its notes
      binds : {d : ℕ} {γ : Environment} {fs : List (Frame N)} {v w : Hedge N} {u : Plain} →
          {m n : M} {at : Span} {x : Var} {q : Query} {s : Core} → value γ q ≡ Some u →
          DerivesNoted d ((x, u) ∷ γ) fs v m s w n → DerivesNoted d γ fs v m (binding at x q s) w n
      notes : {d : ℕ} {γ : Environment} {fs : List (Frame N)} {v w : Hedge N} {m n : M} →
          {at : Span} {x : Var} {s : Core} →
          DerivesNoted d ((x, erase v) ∷ γ) fs v m s w n →
          DerivesNoted d γ fs v m (snapshot at x s) w n
      -- the value of the query, where the forest is empty
      inserts : {d : ℕ} {γ : Environment} {fs : List (Frame N)} {u : Plain} {m : M} {at : Span} →
          {q : Query} → value γ q ≡ Some u →
          DerivesNoted d γ fs nil m (insert at q) (insertion notation fs u m).0
          (insertion notation fs u m).1
      -- nothing is left
      deletes : {d : ℕ} {γ : Environment} {fs : List (Frame N)} {v : Hedge N} {m : M} →
          {at : Span} → DerivesNoted d γ fs v m (delete at) nil (deletion notation fs v m)
      -- one element gets the label, and keeps its content
      renames : {d : ℕ} {γ : Environment} {fs : List (Frame N)} {note : N} {a b : ℕ} →
          {c : Hedge N} {m : M} {at : Span} →
          DerivesNoted d γ fs (elem note a c nil) m (rename at b) (elem note b c nil)
          (notation.relabelled note a b m)
      -- the statement on a tree that passes the test; a tree that doesn't pass it stays
      tests : {d : ℕ} {γ : Environment} {fs : List (Frame N)} {v w : Hedge N} {m n : M} →
          {at : Span} {t : Test} {s : Core} → is_tree v ≡ true → matches t v ≡ true →
          DerivesNoted d γ fs v m s w n → DerivesNoted d γ fs v m (test at t s) w n
      passes : {d : ℕ} {γ : Environment} {fs : List (Frame N)} {v : Hedge N} {m : M} {at : Span} →
          {t : Test} {s : Core} → is_tree v ≡ true → matches t v ≡ false →
          DerivesNoted d γ fs v m (test at t s) v m
      -- one element stays round what its content becomes
      enters : {d : ℕ} {γ : Environment} {fs : List (Frame N)} {note : N} {a : ℕ} →
          {c w : Hedge N} {m n : M} {at : Span} {s : Core} →
          DerivesNoted d γ (Down note a ∷ fs) c m s w n →
          DerivesNoted d γ fs (elem note a c nil) m (children at s) (elem note a w nil) n
      -- what the statement makes of the empty forest stands before the forest, or behind it
      goes_left : {d : ℕ} {γ : Environment} {fs : List (Frame N)} {v u : Hedge N} {m n : M} →
          {at : Span} {s : Core} → DerivesNoted d γ (Before v ∷ fs) nil m s u n →
          DerivesNoted d γ fs v m (left at s) (join u v) n
      goes_right : {d : ℕ} {γ : Environment} {fs : List (Frame N)} {v u : Hedge N} {m n : M} →
          {at : Span} {s : Core} → DerivesNoted d γ (After v ∷ fs) nil m s u n →
          DerivesNoted d γ fs v m (right at s) (join v u) n
      -- the statement on each tree
      iterates : {d : ℕ} {γ : Environment} {fs : List (Frame N)} {v w : Hedge N} {m n : M} →
          {at : Span} {s : Core} → EachNoted d γ fs nil v m s w n →
          DerivesNoted d γ fs v m (iter at s) w n
      -- the body with a call less to go, where one is left
      calls : {d : ℕ} {γ δ : Environment} {fs : List (Frame N)} {v w : Hedge N} {m n : M} →
          {at : Span} {p : ℕ} {args : List Query} {q : Proc} → proc_of procs p ≡ Some q →
          bound_to γ q.params args ≡ Some δ → DerivesNoted d δ fs v m q.body w n →
          DerivesNoted (suc d) γ fs v m (call at p args) w n

    -- EachNoted .. d γ fs done rest m s w n: what s makes of each tree of rest, from left to right,
    -- is w when it is joined to what is done
    pub data EachNoted : ℕ → Environment → List (Frame N) → (done rest : Hedge N) → M → Core →
        Hedge N → M → Type 0 where
      each_end : {d : ℕ} {γ : Environment} {fs : List (Frame N)} {done : Hedge N} {m : M} →
          {s : Core} → EachNoted d γ fs done nil m s done m
      each_elem : {d : ℕ} {γ : Environment} {fs : List (Frame N)} {done c r u w : Hedge N} →
          {note : N} {a : ℕ} {m n o : M} {s : Core} →
          DerivesNoted d γ (Each done r ∷ fs) (elem note a c nil) m s u n →
          EachNoted d γ fs (join done u) r n s w o →
          EachNoted d γ fs done (elem note a c r) m s w o
      each_leaf : {d : ℕ} {γ : Environment} {fs : List (Frame N)} {done r u w : Hedge N} →
          {note : N} {x : Atom} {m n o : M} {s : Core} →
          DerivesNoted d γ (Each done r ∷ fs) (leaf note x nil) m s u n →
          EachNoted d γ fs (join done u) r n s w o →
          EachNoted d γ fs done (leaf note x r) m s w o

-- DerivesNumbered procs d γ fs k v s w l h: with d calls to go, in γ, under the frames fs and with
-- the numbers k to come, s makes w of v by the edits h, and leaves the numbers l
abbrev pub DerivesNumbered : Procs → ℕ → Environment → List (Frame ℕ) → Supply → Hedge ℕ → Core →
    Hedge ℕ → Supply → List Edit → Type 0
DerivesNumbered procs d γ fs k v s w l h =
    (n : Numbering) × DerivesNoted numbering procs d γ fs v (unedited k) s w n
    × (n.supply ≡ l) × (n.edits ≡ h)
