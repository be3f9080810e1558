-- Each step of a run: it ends as before, with a step less to go.
use Rattle.std.proofs.Common.{◌≡◌, inl, inr, ◌∙◌, refl, sym, ap, ℕ, zero, suc, ◌<◌, ◌-◌, arith, true, false, List, [], ◌∷◌, ◌++◌, drop, Some}
use Rattle.std.proofs.lemmas.List.{append-nil}
use Rattle.flux_trees.specs.Hedge.{Hedge, Plain, nil, elem, leaf, join, first, others, erase}
use Rattle.flux_trees.specs.Frame.{Frame, Down, Before, After, Each, plug}
use Rattle.flux_trees.proofs.EditLaws.{plug-right, plug-next, plug-gather}
use Rattle.flux_calculus.specs.declared.ask.Test.{Test}
use Rattle.flux_calculus.specs.declared.ask.Var.{Var}
use Rattle.flux_calculus.specs.declared.ask.Span.{Span}
use Rattle.flux_calculus.specs.Tests.{is_tree, matches}
use Rattle.flux_calculus.specs.Query.{Query, Environment, value}
use Rattle.flux_calculus.specs.Core.{Core, skip, nothing, both, choice, binding, snapshot, insert, delete, rename, test, children, left, right, iter, call, Proc, Procs, proc_of}
use Rattle.flux_calculus.specs.Derives.{condition, bound_to}
use Rattle.flux_calculus.specs.Notation.{Notation, Later, now, put, taken, labelled}
use Rattle.flux_editor.specs.Editing.{Moment, State, past, moved, changed, WentDown, CameUp, WentLeft, WentRight, Widened, WentToFirst, WentToNext, IsAtLast, Gathered, after_insert, deleted_from, after_delete, Renamed}
use Rattle.flux_editor.specs.Editing as editing
use Rattle.flux_run.specs.Machine.{Task, Do, Up, Widen, Again, Unbind, Return, Left, before, binding_first, calling}
use Rattle.flux_run.specs.Running.{Continues, Turn}

module _ {N M : Type 0} (notation : Notation N M) where
  -- ---- what goes on

  -- another focus of the same document
  pub moves_on : (s : State N M) (fs : List (Frame N)) (v : Hedge N) → plug fs v ≡ plug s.frames s.focus → Continues notation s (moved fs v s)
  moves_on s fs v e = record {
    more = [];
    past = ap (λ d. s.earlier ++ record { document = d; marks = s.marks } ∷ []) e ∙ sym (append-nil (past s));
    later = now;
  }

  pub stays_on : (s : State N M) → Continues notation s s
  stays_on s = record { more = []; past = sym (append-nil (past s)); later = now }

  pub changes_on : (s : State N M) (v : Hedge N) (m : M) → Later notation s.marks m → Continues notation s (changed v m s)
  changes_on s v m l = record { more = editing.now (changed v m s) ∷ []; past = refl; later = l }

  -- ---- the steps

  module _ (procs : Procs) (l : Left) where
    abbrev Turns : Task → State N M → Left → State N M → Type 0
    Turns t s l' s' = Turn notation procs (before t l) s l' s'

    -- the focus stays: a statement with nothing to do, and tasks in its place
    pub turn_skip : (at : Span) (s : State N M) → Turns (Do (skip at)) s l s
    turn_skip at s = record { same = refl; less = refl; frames = refl; env = refl; bound = λ b. b; goes_on = stays_on s }

    pub turn_nothing : (at : Span) (s : State N M) → Turns (Do (nothing at)) s l s
    turn_nothing at s = record { same = refl; less = refl; frames = refl; env = refl; bound = λ b. b; goes_on = stays_on s }

    pub turn_both : (at : Span) (c r : Core) (s : State N M) → Turns (Do (both at c r)) s (before (Do c) (before (Do r) l)) s
    turn_both at c r s = record { same = refl; less = refl; frames = refl; env = refl; bound = λ b. b; goes_on = stays_on s }

    pub turn_yes : (at : Span) (q : Query) (c r : Core) (s : State N M) → condition l.env q ≡ Some true → Turns (Do (choice at q c r)) s (before (Do c) l) s
    turn_yes at q c r s e = record { same = rw e refl; less = rw e refl; frames = refl; env = refl; bound = λ b. b; goes_on = stays_on s }

    pub turn_no : (at : Span) (q : Query) (c r : Core) (s : State N M) → condition l.env q ≡ Some false → Turns (Do (choice at q c r)) s (before (Do r) l) s
    turn_no at q c r s e = record { same = rw e refl; less = rw e refl; frames = refl; env = refl; bound = λ b. b; goes_on = stays_on s }

    -- a variable is bound, and taken back once the body is done
    pub turn_binding : (at : Span) (x : Var) (q : Query) (c : Core) (u : Plain) (s : State N M) → value l.env q ≡ Some u → Turns (Do (binding at x q c)) s (binding_first x u c l) s
    turn_binding at x q c u s e = record {
      same = rw e refl;
      less = rw e refl;
      frames = refl;
      env = refl;
      bound = λ b. (omega arith, b);
      goes_on = stays_on s;
    }

    pub turn_snapshot : (at : Span) (x : Var) (c : Core) (s : State N M) → Turns (Do (snapshot at x c)) s (binding_first x (erase s.focus) c l) s
    turn_snapshot at x c s = record { same = refl; less = refl; frames = refl; env = refl; bound = λ b. (omega arith, b); goes_on = stays_on s }

    -- a tree that passes, and one that doesn't
    pub turn_fits : (at : Span) (t : Test) (c : Core) (s : State N M) → is_tree s.focus ≡ true → matches t s.focus ≡ true → Turns (Do (test at t c)) s (before (Do c) l) s
    turn_fits at t c s one fits = record { same = rw (one, fits) refl; less = rw (one, fits) refl; frames = refl; env = refl; bound = λ b. b; goes_on = stays_on s }

    pub turn_misses : (at : Span) (t : Test) (c : Core) (s : State N M) → is_tree s.focus ≡ true → matches t s.focus ≡ false → Turns (Do (test at t c)) s l s
    turn_misses at t c s one misses = record { same = rw (one, misses) refl; less = rw (one, misses) refl; frames = refl; env = refl; bound = λ b. b; goes_on = stays_on s }

    -- into an element, and out of it
    pub turn_children : (at : Span) (c : Core) (s s' : State N M) → WentDown s s' → Turns (Do (children at c)) s (before (Do c) (before Up l)) s'
    turn_children at c s s' h =
        rw (h.4) record {
          same = rw (h.3) refl;
          less = rw (h.3) refl;
          frames = refl;
          env = refl;
          bound = λ b. b;
          goes_on = moves_on s (Down (h.0) (h.1) ∷ s.frames) (h.2) (rw (h.3) refl);
        }

    pub turn_up : (s s' : State N M) → CameUp s s' → Turns Up s l s'
    turn_up s s' h =
        rw (h.4) record {
          same = rw (h.3) refl;
          less = rw (h.3) refl;
          frames = rw (h.3) refl;
          env = refl;
          bound = λ b. b;
          goes_on = moves_on s (h.2) (elem (h.0) (h.1) s.focus nil) (rw (h.3) refl);
        }

    -- to a side, and back
    pub turn_left : (at : Span) (c : Core) (s s' : State N M) → WentLeft s s' → Turns (Do (left at c)) s (before (Do c) (before Widen l)) s'
    turn_left at c s s' h =
        rw h record { same = refl; less = refl; frames = refl; env = refl; bound = λ b. b; goes_on = moves_on s (Before s.focus ∷ s.frames) nil refl }

    pub turn_right : (at : Span) (c : Core) (s s' : State N M) → WentRight s s' → Turns (Do (right at c)) s (before (Do c) (before Widen l)) s'
    turn_right at c s s' h =
        rw h record { same = refl; less = refl; frames = refl; env = refl; bound = λ b. b; goes_on = moves_on s (After s.focus ∷ s.frames) nil (plug-right s.frames s.focus) }

    pub turn_widen : (s s' : State N M) → Widened s s' → Turns Widen s l s'
    turn_widen s s' h = elim (h.2) [
      | inl p ↦ rw (p.1) record {
        same = rw (p.0) refl;
        less = rw (p.0) refl;
        frames = rw (p.0) refl;
        env = refl;
        bound = λ b. b;
        goes_on = moves_on s (h.1) (join s.focus (h.0)) (rw (p.0) refl);
      }
      | inr p ↦ rw (p.1) record {
        same = rw (p.0) refl;
        less = rw (p.0) refl;
        frames = rw (p.0) refl;
        env = refl;
        bound = λ b. b;
        goes_on = moves_on s (h.1) (join (h.0) s.focus) (rw (p.0) refl);
      }
    ]

    -- one tree after the other
    pub turn_iter_none : (at : Span) (c : Core) (s : State N M) → s.focus ≡ nil → Turns (Do (iter at c)) s l s
    turn_iter_none at c s e = record { same = rw e refl; less = rw e refl; frames = refl; env = refl; bound = λ b. b; goes_on = stays_on s }

    -- from a forest that isn't empty the first tree is taken
    iter_from : (at : Span) (c : Core) (s : State N M) (v : Hedge N) → s.focus ≡ v → (v ≡ nil → ⊥) →
        Turns (Do (iter at c)) s (before (Do c) (before (Again c) l)) (moved (Each nil (others v) ∷ s.frames) (first v) s)
    iter_from at c s nil e h = absurd (h refl)
    iter_from at c s (elem n a w r) e h = record {
      same = rw e refl;
      less = rw e refl;
      frames = refl;
      env = refl;
      bound = λ b. b;
      goes_on = moves_on s (Each nil r ∷ s.frames) (elem n a w nil) (rw e refl);
    }
    iter_from at c s (leaf n x r) e h = record {
      same = rw e refl;
      less = rw e refl;
      frames = refl;
      env = refl;
      bound = λ b. b;
      goes_on = moves_on s (Each nil r ∷ s.frames) (leaf n x nil) (rw e refl);
    }

    pub turn_iter : (at : Span) (c : Core) (s s' : State N M) → WentToFirst s s' → Turns (Do (iter at c)) s (before (Do c) (before (Again c) l)) s'
    turn_iter at c s s' h = rw (h.1) (iter_from at c s s.focus refl (h.0))

    again_from : (c : Core) (s : State N M) (done rest : Hedge N) (fs : List (Frame N)) → s.frames ≡ Each done rest ∷ fs → (rest ≡ nil → ⊥) →
        Turns (Again c) s (before (Do c) (before (Again c) l)) (moved (Each (join done s.focus) (others rest) ∷ fs) (first rest) s)
    again_from c s done nil fs e h = absurd (h refl)
    again_from c s done (elem n a w r) fs e h = record {
      same = rw e refl;
      less = rw e refl;
      frames = rw e refl;
      env = refl;
      bound = λ b. b;
      goes_on = moves_on s (Each (join done s.focus) r ∷ fs) (elem n a w nil) (rw e (plug-next fs done s.focus (elem n a w nil) r));
    }
    again_from c s done (leaf n x r) fs e h = record {
      same = rw e refl;
      less = rw e refl;
      frames = rw e refl;
      env = refl;
      bound = λ b. b;
      goes_on = moves_on s (Each (join done s.focus) r ∷ fs) (leaf n x nil) (rw e (plug-next fs done s.focus (leaf n x nil) r));
    }

    pub turn_again : (c : Core) (s s' : State N M) → WentToNext s s' → Turns (Again c) s (before (Do c) (before (Again c) l)) s'
    turn_again c s s' h = rw (h.5) (again_from c s (h.0) (h.1) (h.2) (h.3) (h.4))

    pub turn_gather : (c : Core) (s s' : State N M) → Gathered s s' → Turns (Again c) s l s'
    turn_gather c s s' h =
        rw (h.3) record {
          same = rw (h.2) refl;
          less = rw (h.2) refl;
          frames = rw (h.2) refl;
          env = refl;
          bound = λ b. b;
          goes_on = moves_on s (h.1) (join (h.0) s.focus) (rw (h.2) (sym (plug-gather (h.1) (h.0) s.focus)));
        }

    -- changes
    pub turn_insert : (at : Span) (q : Query) (w : Plain) (s s' : State N M) → s.focus ≡ nil → value l.env q ≡ Some w → s' ≡ after_insert notation w s → Turns (Do (insert at q)) s l s'
    turn_insert at q nil s s' e f g =
        rw g record { same = rw e (rw f refl); less = rw e (rw f refl); frames = refl; env = refl; bound = λ b. b; goes_on = stays_on s }
    turn_insert at q (elem n a c r) s s' e f g =
        rw g record {
          same = rw e (rw f refl);
          less = rw e (rw f refl);
          frames = refl;
          env = refl;
          bound = λ b. b;
          goes_on = changes_on s _ _ (put now);
        }
    turn_insert at q (leaf n x r) s s' e f g =
        rw g record {
          same = rw e (rw f refl);
          less = rw e (rw f refl);
          frames = refl;
          env = refl;
          bound = λ b. b;
          goes_on = changes_on s _ _ (put now);
        }

    delete_from : (at : Span) (s : State N M) (v : Hedge N) → s.focus ≡ v → Turns (Do (delete at)) s l (deleted_from notation v s)
    delete_from at s nil e = record { same = rw e refl; less = rw e refl; frames = refl; env = refl; bound = λ b. b; goes_on = stays_on s }
    delete_from at s (elem n a c r) e = record {
      same = rw e refl;
      less = rw e refl;
      frames = refl;
      env = refl;
      bound = λ b. b;
      goes_on = changes_on s nil _ (taken now);
    }
    delete_from at s (leaf n x r) e = record {
      same = rw e refl;
      less = rw e refl;
      frames = refl;
      env = refl;
      bound = λ b. b;
      goes_on = changes_on s nil _ (taken now);
    }

    pub turn_delete : (at : Span) (s s' : State N M) → s' ≡ after_delete notation s → Turns (Do (delete at)) s l s'
    turn_delete at s s' e = rw e (delete_from at s s.focus refl)

    pub turn_rename : (at : Span) (b : ℕ) (s s' : State N M) → Renamed notation b s s' → Turns (Do (rename at b)) s l s'
    turn_rename at b s s' h =
        rw (h.4) record {
          same = rw (h.3) refl;
          less = rw (h.3) refl;
          frames = refl;
          env = refl;
          bound = λ b. b;
          goes_on = changes_on s _ _ (labelled now);
        }

    -- back from a body
    pub turn_unbind : (s : State N M) → Turns Unbind s (record { tasks = l.tasks; depth = l.depth; env = drop 1 l.env }) s
    turn_unbind s = record { same = refl; less = refl; frames = refl; env = refl; bound = λ b. b.1; goes_on = stays_on s }

    pub turn_return : (e : ℕ) (δ : Environment) (s : State N M) → Turns (Return e δ) s (record { tasks = l.tasks; depth = e; env = δ }) s
    turn_return e δ s = record { same = refl; less = refl; frames = refl; env = refl; bound = λ b. b; goes_on = stays_on s }

  -- a call, where one is to go
  call_at : (procs : Procs) (ts : List Task) (d : ℕ) (γ δ : Environment) (at : Span) (p : ℕ) (args : List Query) (q : Proc) (s : State N M) → proc_of procs p ≡ Some q → bound_to γ q.params args ≡ Some δ →
      Turn notation procs (record { tasks = Do (call at p args) ∷ ts; depth = suc d; env = γ }) s (record { tasks = Do q.body ∷ Return (suc d) γ ∷ ts; depth = d; env = δ }) s
  call_at procs ts d γ δ at p args q s e f = record {
    same = rw e (rw f refl);
    less = rw e (rw f refl);
    frames = refl;
    env = refl;
    bound = λ b. b;
    goes_on = stays_on s;
  }

  pub turn_call : (procs : Procs) (l : Left) (δ : Environment) (at : Span) (p : ℕ) (args : List Query) (q : Proc) (s : State N M) → 0 < l.depth → proc_of procs p ≡ Some q → bound_to l.env q.params args ≡ Some δ →
      Turn notation procs (before (Do (call at p args)) l) s (calling q.body δ l) s
  turn_call procs l δ at p args q s h e f = with_depth l.depth refl
    where
      with_depth : (d : ℕ) → l.depth ≡ d → Turn notation procs (record { tasks = Do (call at p args) ∷ l.tasks; depth = d; env = l.env }) s (record { tasks = Do q.body ∷ Return d l.env ∷ l.tasks; depth = d - 1; env = δ }) s
      with_depth zero g = absurd (omega (arith, h, g))
      with_depth (suc d) g = let one : suc d - 1 ≡ d = omega arith in rw one (call_at procs l.tasks d l.env δ at p args q s e f)
