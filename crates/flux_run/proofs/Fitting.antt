-- What fits where a run isn't stuck.
use Rattle.std.proofs.Common.{◌≡◌, ◌≢◌, ◌⊎◌, inl, inr, refl, subst, ℕ, zero, suc, ◌<◌, arith, Bool, true, false, List, [], ◌∷◌, Option, Some, None, IsSome, if◌then◌else◌}
use Rattle.flux_trees.specs.Hedge.{Hedge, Plain, nil, elem, leaf, IsElement}
use Rattle.flux_trees.specs.Frame.{Frame, Down, Before, After, Each}
use Rattle.flux_calculus.specs.declared.ask.Test.{Test}
use Rattle.flux_calculus.specs.declared.ask.Var.{Var}
use Rattle.flux_calculus.specs.declared.ask.Span.{Span}
use Rattle.flux_calculus.specs.Tests.{is_tree}
use Rattle.flux_calculus.specs.Query.{Query, Environment, value}
use Rattle.flux_calculus.specs.Core.{Core, choice, binding, insert, rename, test, children, call, Proc, Procs, proc_of}
use Rattle.flux_calculus.specs.Derives.{condition, bound_to}
use Rattle.flux_calculus.specs.Ending.{Goes, on_truth, on_value, on_insert, on_rename, on_content, on_proc, on_bound, goes, calls_at, does}
use Rattle.flux_calculus.specs.Notation.{Notation}
use Rattle.flux_calculus.specs.NotedEnding.{NotedEnding, GivesNoted, NotedTooDeep, NotedStuck, noted_endings}
use Rattle.flux_editor.specs.Editing.{State, IsDown, IsBeside, IsEach}
use Rattle.flux_run.specs.Machine.{Task, Do, Up, Widen, Again, Left, before, resume, up_in, widen_in, again_in}
use Rattle.flux_run.specs.Running.{comes_to, Safe}

module _ {N M : Type 0} (notation : Notation N M) where
  abbrev Told : Type 0
  Told = M → NotedEnding N M

  abbrev Resumes : Type 0
  Resumes = List (Frame N) → Hedge N → Told

  truth_some : (o : Option Bool) (f g : Told) (m : M) → on_truth (noted_endings notation) o f g m ≢ NotedStuck → IsSome o
  truth_some None f g m h = absurd (h refl)
  truth_some (Some b) f g m h = refl

  value_some : (o : Option Plain) (go : Plain → Told) (m : M) → on_value (noted_endings notation) o go m ≢ NotedStuck → IsSome o
  value_some None go m h = absurd (h refl)
  value_some (Some v) go m h = refl

  insert_some : (o : Option Plain) (fs : List (Frame N)) (v : Hedge N) (k : Hedge N → Told) (m : M) → on_insert (noted_endings notation) o fs v k m ≢ NotedStuck → (v ≡ nil) × IsSome o
  insert_some None fs nil k m h = absurd (h refl)
  insert_some (Some w) fs nil k m h = (refl, refl)
  insert_some o fs (elem n a c r) k m h = absurd (h refl)
  insert_some o fs (leaf n x r) k m h = absurd (h refl)

  rename_some : (b : ℕ) (fs : List (Frame N)) (v : Hedge N) (k : Hedge N → Told) (m : M) → on_rename (noted_endings notation) b fs v k m ≢ NotedStuck → IsElement v
  rename_some b fs nil k m h = absurd (h refl)
  rename_some b fs (elem n a c nil) k m h = tt
  rename_some b fs (elem n a c (elem n' a' c' r)) k m h = absurd (h refl)
  rename_some b fs (elem n a c (leaf n' x r)) k m h = absurd (h refl)
  rename_some b fs (leaf n x r) k m h = absurd (h refl)

  content_some : (go : Goes N Told) (fs : List (Frame N)) (v : Hedge N) (k : Hedge N → Told) (m : M) → on_content (noted_endings notation) go fs v k m ≢ NotedStuck → IsElement v
  content_some go fs nil k m h = absurd (h refl)
  content_some go fs (elem n a c nil) k m h = tt
  content_some go fs (elem n a c (elem n' a' c' r)) k m h = absurd (h refl)
  content_some go fs (elem n a c (leaf n' x r)) k m h = absurd (h refl)
  content_some go fs (leaf n x r) k m h = absurd (h refl)

  branch_true : (b : Bool) (f : Told) (m : M) → (if b then f else (noted_endings notation).stuck) m ≢ NotedStuck → b ≡ true
  branch_true true f m h = refl
  branch_true false f m h = absurd (h refl)

  up_some : (k : Resumes) (fs : List (Frame N)) (v : Hedge N) (m : M) → up_in (noted_endings notation) k fs v m ≢ NotedStuck → (n : N) × (a : ℕ) × (gs : List (Frame N)) × (fs ≡ Down n a ∷ gs)
  up_some k [] v m h = absurd (h refl)
  up_some k (Down n a ∷ fs) v m h = (n, a, fs, refl)
  up_some k (Before w ∷ fs) v m h = absurd (h refl)
  up_some k (After w ∷ fs) v m h = absurd (h refl)
  up_some k (Each done rest ∷ fs) v m h = absurd (h refl)

  widen_some : (k : Resumes) (fs : List (Frame N)) (v : Hedge N) (m : M) → widen_in (noted_endings notation) k fs v m ≢ NotedStuck → (w : Hedge N) × (gs : List (Frame N)) × ((fs ≡ Before w ∷ gs) ⊎ (fs ≡ After w ∷ gs))
  widen_some k [] v m h = absurd (h refl)
  widen_some k (Down n a ∷ fs) v m h = absurd (h refl)
  widen_some k (Before w ∷ fs) v m h = (w, fs, inl refl)
  widen_some k (After w ∷ fs) v m h = (w, fs, inr refl)
  widen_some k (Each done rest ∷ fs) v m h = absurd (h refl)

  again_some : (go : Goes N Told) (k : Resumes) (fs : List (Frame N)) (v : Hedge N) (m : M) → again_in (noted_endings notation) go k fs v m ≢ NotedStuck → (done : Hedge N) × (rest : Hedge N) × (gs : List (Frame N)) × (fs ≡ Each done rest ∷ gs)
  again_some go k [] v m h = absurd (h refl)
  again_some go k (Down n a ∷ fs) v m h = absurd (h refl)
  again_some go k (Before w ∷ fs) v m h = absurd (h refl)
  again_some go k (After w ∷ fs) v m h = absurd (h refl)
  again_some go k (Each done rest ∷ fs) v m h = (done, rest, fs, refl)

  bound_some : (o : Option Environment) (go : Environment → Goes N Told) (fs : List (Frame N)) (v : Hedge N) (k : Hedge N → Told) (m : M) → on_bound (noted_endings notation) o go fs v k m ≢ NotedStuck → IsSome o
  bound_some None go fs v k m h = absurd (h refl)
  bound_some (Some δ) go fs v k m h = refl

  proc_some : (o : Option Proc) (γ : Environment) (args : List Query) (go : Environment → Core → Goes N Told) (fs : List (Frame N)) (v : Hedge N) (k : Hedge N → Told) (m : M) → on_proc (noted_endings notation) o γ args go fs v k m ≢ NotedStuck →
      (q : Proc) × (o ≡ Some q) × IsSome (bound_to γ q.params args)
  proc_some None γ args go fs v k m h = absurd (h refl)
  proc_some (Some q) γ args go fs v k m h = (q, refl, bound_some (bound_to γ q.params args) (λ δ. go δ q.body) fs v k m h)

  call_some : (procs : Procs) (d : ℕ) (γ : Environment) (at : Span) (p : ℕ) (args : List Query) (fs : List (Frame N)) (v : Hedge N) (k : Hedge N → Told) (m : M) → 0 < d → does (noted_endings notation) procs d γ (call at p args) fs v k m ≢ NotedStuck →
      (q : Proc) × (proc_of procs p ≡ Some q) × IsSome (bound_to γ q.params args)
  call_some procs zero γ at p args fs v k m z h = absurd (omega (arith, z))
  call_some procs (suc d) γ at p args fs v k m z h = proc_some (proc_of procs p) γ args (goes (noted_endings notation) (calls_at (noted_endings notation) procs d)) fs v k m h

  module _ (procs : Procs) (l : Left) (s : State N M) where
    abbrev SafeAt : Task → Type 0
    SafeAt t = Safe notation procs (before t l) s

    as_is : (k k' : Core) → k ≡ k' → SafeAt (Do k) → SafeAt (Do k')
    as_is k k' e h = subst (λ c. SafeAt (Do c)) e h

    pub fits_choice : (k : Core) (at : Span) (q : Query) (c r : Core) → k ≡ choice at q c r → SafeAt (Do k) → IsSome (condition l.env q)
    fits_choice k at q c r e h = truth_some (condition l.env q) _ _ s.marks (as_is k (choice at q c r) e h).safe

    pub fits_binding : (k : Core) (at : Span) (x : Var) (q : Query) (c : Core) → k ≡ binding at x q c → SafeAt (Do k) → IsSome (value l.env q)
    fits_binding k at x q c e h = value_some (value l.env q) _ s.marks (as_is k (binding at x q c) e h).safe

    pub fits_insert : (k : Core) (at : Span) (q : Query) → k ≡ insert at q → SafeAt (Do k) → (s.focus ≡ nil) × IsSome (value l.env q)
    fits_insert k at q e h = insert_some (value l.env q) s.frames s.focus _ s.marks (as_is k (insert at q) e h).safe

    pub fits_rename : (k : Core) (at : Span) (b : ℕ) → k ≡ rename at b → SafeAt (Do k) → IsElement s.focus
    fits_rename k at b e h = rename_some b s.frames s.focus _ s.marks (as_is k (rename at b) e h).safe

    pub fits_children : (k : Core) (at : Span) (c : Core) → k ≡ children at c → SafeAt (Do k) → IsElement s.focus
    fits_children k at c e h = content_some (does (noted_endings notation) procs l.depth l.env c) s.frames s.focus _ s.marks (as_is k (children at c) e h).safe

    pub fits_test : (k : Core) (at : Span) (t : Test) (c : Core) → k ≡ test at t c → SafeAt (Do k) → is_tree s.focus ≡ true
    fits_test k at t c e h = branch_true (is_tree s.focus) _ s.marks (as_is k (test at t c) e h).safe

    pub fits_call : (k : Core) (at : Span) (p : ℕ) (args : List Query) → k ≡ call at p args → 0 < l.depth → SafeAt (Do k) → (q : Proc) × (proc_of procs p ≡ Some q) × IsSome (bound_to l.env q.params args)
    fits_call k at p args e z h = call_some procs l.depth l.env at p args s.frames s.focus _ s.marks z (as_is k (call at p args) e h).safe

    pub none_to_go : (k : Core) (at : Span) (p : ℕ) (args : List Query) → k ≡ call at p args → l.depth ≡ 0 → comes_to notation procs (before (Do k) l) s ≡ NotedTooDeep at.from
    none_to_go k at p args e z = rw e (rw z refl)

    pub fits_up : SafeAt Up → IsDown s
    fits_up h = up_some (resume (noted_endings notation) procs GivesNoted l.tasks l.depth l.env) s.frames s.focus s.marks h.safe

    pub fits_widen : SafeAt Widen → IsBeside s
    fits_widen h = widen_some (resume (noted_endings notation) procs GivesNoted l.tasks l.depth l.env) s.frames s.focus s.marks h.safe

    pub fits_again : (c : Core) → SafeAt (Again c) → IsEach s
    fits_again c h = again_some (does (noted_endings notation) procs l.depth l.env c) (resume (noted_endings notation) procs GivesNoted l.tasks l.depth l.env) s.frames s.focus s.marks h.safe
