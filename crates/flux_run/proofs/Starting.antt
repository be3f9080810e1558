-- Each statement begins by a step of the run.
use Rattle.std.proofs.Common.{◌≡◌, ◌⊎◌, inl, inr, ◌∙◌, refl, sym, ap, ℕ, ◌<◌, true, false, List, [], ◌∷◌, Some, map}
use Rattle.flux_trees.specs.Hedge.{Hedge, Plain, nil, elem, leaf, erase}
use Rattle.flux_calculus.specs.declared.ask.Test.{Test}
use Rattle.flux_calculus.specs.declared.ask.Var.{Var}
use Rattle.flux_calculus.specs.declared.ask.Span.{Span}
use Rattle.flux_calculus.specs.Tests.{is_tree, matches}
use Rattle.flux_calculus.specs.Query.{Query, Environment, value}
use Rattle.flux_calculus.specs.Core.{Core, skip, nothing, both, in_order, choice, binding, snapshot, insert, delete, rename, test, children, left, right, iter, call, Proc, Procs, proc_of}
use Rattle.flux_calculus.specs.Derives.{condition, bound_to}
use Rattle.flux_calculus.specs.Notation.{Notation}
use Rattle.flux_core.specs.declared.statement.Core.{Core as Tree}
use Rattle.flux_core.specs.Statements.{core_of}
use Rattle.flux_editor.specs.Looks.{look_of}
use Rattle.flux_editor.specs.Editing.{State, WentDown, WentLeft, WentRight, WentToFirst, after_insert, after_delete, Renamed}
use Rattle.flux_run.specs.Machine.{Do, Up, Widen, Again, Left, before, binding_first, calling}
use Rattle.flux_run.specs.Passing.{look_matches}
use Rattle.flux_run.specs.Running.{Turn}
use Rattle.flux_run.proofs.Turns.{turn_skip, turn_nothing, turn_both, turn_yes, turn_no, turn_binding, turn_snapshot, turn_fits, turn_misses, turn_children, turn_left, turn_right, turn_iter_none, turn_iter, turn_insert, turn_delete, turn_rename, turn_call}

-- one tree passes a test where its look does
look_tells : {N : Type 0} (t : Test) (v : Hedge N) → is_tree v ≡ true → look_matches t (look_of v) ≡ matches t v
look_tells t nil e = cc
look_tells t (elem n a c nil) e = refl
look_tells t (elem n a c (elem n' a' c' r)) e = cc
look_tells t (elem n a c (leaf n' x r)) e = cc
look_tells t (leaf n x nil) e = refl
look_tells t (leaf n x (elem n' a' c' r)) e = cc
look_tells t (leaf n x (leaf n' y r)) e = cc

module _ {N M : Type 0} (notation : Notation N M) (procs : Procs) (l l' : Left) (s s' : State N M) (k : Core) where
  abbrev Starts : Type 0
  Starts = Turn notation procs (before (Do k) l) s l' s'

  -- as a statement in another form, and with what is left and the editor as they are found
  becomes : (c : Core) (m : Left) → k ≡ c → l' ≡ m → Turn notation procs (before (Do c) l) s m s' → Starts
  becomes c m e f t = rw e (rw f t)

  as_was : (c : Core) (m : Left) → k ≡ c → l' ≡ m → s' ≡ s → Turn notation procs (before (Do c) l) s m s → Starts
  as_was c m e f g t = rw e (rw f (rw g t))

  pub start_skip : (at : Span) → k ≡ skip at → l' ≡ l → s' ≡ s → Starts
  start_skip at e f g = as_was (skip at) l e f g (turn_skip notation procs l at s)

  pub start_rest : (at : Span) (ss : List Tree) → k ≡ in_order at (map core_of ss) → s' ≡ s →
      ((ss ≡ []) × (l' ≡ l)) ⊎ ((c : Tree) × (cs : List Tree) × (ss ≡ c ∷ cs) × (l' ≡ before (Do (core_of c)) (before (Do (in_order at (map core_of cs))) l))) → Starts
  start_rest at ss e g (inl h) =
      as_was (nothing at) l (e ∙ ap (λ cs. in_order at (map core_of cs)) (h.0)) (h.1) g (turn_nothing notation procs l at s)
  start_rest at ss e g (inr h) =
      as_was (both at (core_of (h.0)) (in_order at (map core_of (h.1)))) (before (Do (core_of (h.0))) (before (Do (in_order at (map core_of (h.1)))) l)) (e ∙ ap (λ cs. in_order at (map core_of cs)) (h.2)) (h.3) g
      (turn_both notation procs l at (core_of (h.0)) (in_order at (map core_of (h.1))) s)

  pub start_choice : (at : Span) (q : Query) (c r : Core) → k ≡ choice at q c r → s' ≡ s →
      ((condition l.env q ≡ Some true) × (l' ≡ before (Do c) l)) ⊎ ((condition l.env q ≡ Some false) × (l' ≡ before (Do r) l)) → Starts
  start_choice at q c r e g (inl h) = as_was (choice at q c r) (before (Do c) l) e (h.1) g (turn_yes notation procs l at q c r s (h.0))
  start_choice at q c r e g (inr h) = as_was (choice at q c r) (before (Do r) l) e (h.1) g (turn_no notation procs l at q c r s (h.0))

  pub start_binding : (at : Span) (x : Var) (q : Query) (c : Core) → k ≡ binding at x q c → s' ≡ s → (u : Plain) × (value l.env q ≡ Some u) × (l' ≡ binding_first x u c l) → Starts
  start_binding at x q c e g h = as_was (binding at x q c) (binding_first x (h.0) c l) e (h.2) g (turn_binding notation procs l at x q c (h.0) s (h.1))

  pub start_snapshot : (at : Span) (x : Var) (c : Core) → k ≡ snapshot at x c → s' ≡ s → l' ≡ binding_first x (erase s.focus) c l → Starts
  start_snapshot at x c e g f = as_was (snapshot at x c) (binding_first x (erase s.focus) c l) e f g (turn_snapshot notation procs l at x c s)

  pub start_insert : (at : Span) (q : Query) → k ≡ insert at q → l' ≡ l → s.focus ≡ nil → (w : Plain) × (value l.env q ≡ Some w) × (s' ≡ after_insert notation w s) → Starts
  start_insert at q e f i h = becomes (insert at q) l e f (turn_insert notation procs l at q (h.0) s s' i (h.1) (h.2))

  pub start_delete : (at : Span) → k ≡ delete at → l' ≡ l → s' ≡ after_delete notation s → Starts
  start_delete at e f h = becomes (delete at) l e f (turn_delete notation procs l at s s' h)

  pub start_rename : (at : Span) (b : ℕ) → k ≡ rename at b → l' ≡ l → Renamed notation b s s' → Starts
  start_rename at b e f h = becomes (rename at b) l e f (turn_rename notation procs l at b s s' h)

  pub start_test : (at : Span) (t : Test) (c : Core) → k ≡ test at t c → s' ≡ s → is_tree s.focus ≡ true →
      ((look_matches t (look_of s.focus) ≡ true) × (l' ≡ before (Do c) l)) ⊎ ((look_matches t (look_of s.focus) ≡ false) × (l' ≡ l)) → Starts
  start_test at t c e g one (inl h) = as_was (test at t c) (before (Do c) l) e (h.1) g (turn_fits notation procs l at t c s one (sym (look_tells t s.focus one) ∙ h.0))
  start_test at t c e g one (inr h) = as_was (test at t c) l e (h.1) g (turn_misses notation procs l at t c s one (sym (look_tells t s.focus one) ∙ h.0))

  pub start_children : (at : Span) (c : Core) → k ≡ children at c → WentDown s s' × (l' ≡ before (Do c) (before Up l)) → Starts
  start_children at c e h = becomes (children at c) (before (Do c) (before Up l)) e (h.1) (turn_children notation procs l at c s s' (h.0))

  pub start_left : (at : Span) (c : Core) → k ≡ left at c → WentLeft s s' × (l' ≡ before (Do c) (before Widen l)) → Starts
  start_left at c e h = becomes (left at c) (before (Do c) (before Widen l)) e (h.1) (turn_left notation procs l at c s s' (h.0))

  pub start_right : (at : Span) (c : Core) → k ≡ right at c → WentRight s s' × (l' ≡ before (Do c) (before Widen l)) → Starts
  start_right at c e h = becomes (right at c) (before (Do c) (before Widen l)) e (h.1) (turn_right notation procs l at c s s' (h.0))

  pub start_iter : (at : Span) (c : Core) → k ≡ iter at c →
      (WentToFirst s s' × (l' ≡ before (Do c) (before (Again c) l))) ⊎ ((s.focus ≡ nil) × (s' ≡ s) × (l' ≡ l)) → Starts
  start_iter at c e (inl h) = becomes (iter at c) (before (Do c) (before (Again c) l)) e (h.1) (turn_iter notation procs l at c s s' (h.0))
  start_iter at c e (inr h) = as_was (iter at c) l e (h.2) (h.1) (turn_iter_none notation procs l at c s (h.0))

  pub start_call : (at : Span) (p : ℕ) (args : List Query) → k ≡ call at p args → s' ≡ s → 0 < l.depth →
      (q : Proc) × (δ : Environment) × (proc_of procs p ≡ Some q) × (bound_to l.env q.params args ≡ Some δ) × (l' ≡ calling q.body δ l) → Starts
  start_call at p args e g z h = as_was (call at p args) (calling (h.0).body (h.1) l) e (h.4) g (turn_call notation procs l (h.1) at p args (h.0) s z (h.2) (h.3))
