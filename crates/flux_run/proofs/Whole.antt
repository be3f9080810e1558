-- Whole runs: how they begin, what each step hands on, how they end, and that they can be taken back.
use Rattle.std.proofs.Common.{◌≡◌, ◌∙◌, refl, sym, ap, ap₂, subst, ℕ, suc, List, [], ◌∷◌, ◌++◌, length, take, append_assoc, length-append, arith, false, Result, Ok, Err}
use Rattle.std.specs.Result.{OnOk, OnErr, is_err}
use Rattle.std.proofs.lemmas.List.{take_at}
use Rattle.flux_trees.specs.Hedge.{Hedge, Plain, erase}
use Rattle.flux_trees.specs.Frame.{Frame, plug}
use Rattle.flux_calculus.specs.Query.{Environment}
use Rattle.flux_calculus.specs.Core.{Core, Procs}
use Rattle.flux_calculus.specs.Derives.{Derives, Exceeds}
use Rattle.flux_calculus.specs.Notation.{Notation}
use Rattle.flux_calculus.specs.NotedEnding.{NotedEnding, GivesNoted, NotedTooDeep}
use Rattle.flux_calculus.proofs.Agree.{never_both, exceeds_one}
use Rattle.flux_calculus.proofs.NotedAgree.{gives-noted}
use Rattle.flux_calculus.proofs.Erased.{noted-derives, noted-deep, noted-never-stuck}
use Rattle.flux_calculus.proofs.Growing.{later-trans}
use Rattle.flux_editor.specs.Editing.{Moment, State, past, TakenBack}
use Rattle.flux_editor.specs.Editing as editing
use Rattle.flux_run.specs.declared.fault.RunFault.{RunFault}
use Rattle.flux_run.specs.declared.fault.RunFault.TheVariants.{TooDeep, Memory}
use Rattle.flux_run.specs.Machine.{Task, Do, Left, before, outer, below, AreBound}
use Rattle.flux_run.specs.Refusals.{IsDone, IsRefusedAt}
use Rattle.flux_run.specs.Running.{CanRun, Continues, Performed, comes_to, Safe, Turn}

pub left_is : {ts ts' : List Task} {d d' : ℕ} {γ γ' : Environment} → ts ≡ ts' → d ≡ d' → γ ≡ γ' → ◌≡◌ {A = Left} (record { tasks = ts; depth = d; env = γ }) (record { tasks = ts'; depth = d'; env = γ' })
left_is e f g = cc

-- ---- the beginning: one statement, with nothing behind it

module _ (k : Core) (l l' : Left) (none : l.tasks ≡ []) (e : l' ≡ before (Do k) l) where
  pub begins_frames : {N : Type 0} (fs : List (Frame N)) → outer l'.tasks fs ≡ fs
  begins_frames fs = ap (λ (m : Left). outer m.tasks fs) e ∙ ap (λ ts. outer ts fs) none

  pub begins_bound : AreBound l'.tasks l'.env
  begins_bound = rw e (rw none tt)

  pub begins_env : below l'.tasks l'.env ≡ l.env
  begins_env = ap (λ (m : Left). below m.tasks m.env) e ∙ ap (λ ts. below ts l.env) none

module _ {N M : Type 0} (notation : Notation N M) where
  pub continues-trans : {r s t : State N M} → Continues notation r s → Continues notation s t → Continues notation r t
  continues-trans {r} a b = record {
    more = a.more ++ b.more;
    past = b.past ∙ ap (λ ms. ms ++ b.more) a.past ∙ append_assoc (past r) a.more b.more;
    later = later-trans notation a.later b.later;
  }

  -- it fits where it makes a forest, or meets a call too many
  pub can_safe : (procs : Procs) (d : ℕ) (γ : Environment) (k : Core) (l : Left) (s : State N M) → CanRun procs d γ (erase s.focus) k → l ≡ record { tasks = []; depth = d; env = γ } → Safe notation procs (before (Do k) l) s
  can_safe procs d γ k l s h e = rw e record { safe = noted-never-stuck notation procs d γ k s.frames s.focus s.marks h }

  -- ---- from step to step

  module _ (procs : Procs) (l m l' : Left) (s s' : State N M) (t : Task) (e : l ≡ before t m) (turn : Turn notation procs (before t m) s l' s') where
    pub hands_same : {o : NotedEnding N M} → comes_to notation procs l s ≡ o → comes_to notation procs l' s' ≡ o
    hands_same h = sym turn.same ∙ ap (λ x. comes_to notation procs x s) (sym e) ∙ h

    pub hands_frames : {fs : List (Frame N)} → outer l.tasks s.frames ≡ fs → outer l'.tasks s'.frames ≡ fs
    hands_frames h = sym turn.frames ∙ ap (λ (x : Left). outer x.tasks s.frames) (sym e) ∙ h

    pub hands_bound : AreBound l.tasks l.env → AreBound l'.tasks l'.env
    hands_bound h = turn.bound (subst (λ (x : Left). AreBound x.tasks x.env) e h)

    pub hands_env : {γ : Environment} → below l.tasks l.env ≡ γ → below l'.tasks l'.env ≡ γ
    hands_env h = sym turn.env ∙ ap (λ (x : Left). below x.tasks x.env) (sym e) ∙ h

  -- ---- the end

  pub gives_performed : (procs : Procs) (d : ℕ) (γ : Environment) (k : Core) (l : Left) (s s' : State N M) → l ≡ record { tasks = []; depth = d; env = γ } →
      (comes_to notation procs (before (Do k) l) s ≡ GivesNoted s'.focus s'.marks) × (s'.frames ≡ s.frames) → Performed notation procs d γ k s s'
  gives_performed procs d γ k l s s' e h =
      let a = gives-noted notation procs d γ k s.frames s.focus s'.focus s.marks s'.marks (ap (λ x. comes_to notation procs (before (Do k) x) s) (sym e) ∙ h.0) in
      record { derives = a; erased = noted-derives notation a; frames = h.1 }

  pub deep_exceeds : (procs : Procs) (d : ℕ) (γ : Environment) (k : Core) (l : Left) (s : State N M) (place : ℕ) → l ≡ record { tasks = []; depth = d; env = γ } → comes_to notation procs (before (Do k) l) s ≡ NotedTooDeep place → Exceeds procs d γ (erase s.focus) k place
  deep_exceeds procs d γ k l s place e h = noted-deep notation procs d γ k s.frames s.focus s.marks place (ap (λ x. comes_to notation procs (before (Do k) x) s) (sym e) ∙ h)

  -- ---- what was done is taken back

  snoc : {A : Type 0} (xs ys : List A) (a b : A) → xs ++ a ∷ [] ≡ ys ++ b ∷ [] → (xs ≡ ys) × (a ≡ b)
  snoc [] [] a b e = (refl, cc)
  snoc [] (y ∷ []) a b e = cc
  snoc [] (y ∷ (z ∷ ys)) a b e = cc
  snoc (x ∷ []) [] a b e = cc
  snoc (x ∷ (z ∷ xs)) [] a b e = cc
  snoc (x ∷ xs) (y ∷ ys) a b e =
      let first : x ≡ y = cc in
      let rest : (xs ≡ ys) × (a ≡ b) = snoc xs ys a b cc in
      (ap₂ (λ z zs. z ∷ zs) first (rest.0), rest.1)

  same_fields : {fs gs : List (Frame N)} {v w : Hedge N} {m n : M} {es hs : List (Moment N M)} → fs ≡ gs → v ≡ w → m ≡ n → es ≡ hs →
      ◌≡◌ {A = State N M} (record { frames = fs; focus = v; marks = m; earlier = es }) (record { frames = gs; focus = w; marks = n; earlier = hs })
  same_fields e f g h = cc

  same_state : (s t : State N M) → s.frames ≡ [] → t.frames ≡ [] → past s ≡ past t → s ≡ t
  same_state s t e f g =
      let both : (s.earlier ≡ t.earlier) × (editing.now s ≡ editing.now t) = snoc s.earlier t.earlier (editing.now s) (editing.now t) g in
      let document : plug s.frames s.focus ≡ plug t.frames t.focus = ap (λ (m : Moment N M). m.document) (both.1) in
      let focus : s.focus ≡ t.focus = sym (ap (λ fs. plug fs s.focus) e) ∙ document ∙ ap (λ fs. plug fs t.focus) f in
      let marks : s.marks ≡ t.marks = ap (λ (m : Moment N M). m.marks) (both.1) in
      same_fields (e ∙ sym f) focus marks (both.0)

  pub taken_back : (old mid new : State N M) (changes : ℕ) → old.frames ≡ [] → Continues notation old mid → changes ≡ length old.earlier → TakenBack changes mid new → new ≡ old
  taken_back old mid new changes e c f h =
      let many : length (past old) ≡ suc changes = length-append old.earlier (editing.now old ∷ []) ∙ omega (arith, f) in
      same_state new old (h.0) e (h.1 ∙ ap (take (suc changes)) c.past ∙ take_at (past old) c.more (suc changes) many)

-- ---- each answer comes where it should

pub is_done : (procs : Procs) (d : ℕ) (γ : Environment) (v : Plain) (k : Core) (r : Result (Unit {0}) RunFault) → ((place : ℕ) → r ≡ Err (TooDeep place) → Exceeds procs d γ v k place) → (w : Plain) → Derives procs d γ v k w → IsDone r
is_done procs d γ v k (Ok u) f w a = tt
is_done procs d γ v k (Err (TooDeep at)) f w a = never_both a (f at refl)
is_done procs d γ v k (Err (Memory x)) f w a = tt

pub is_refused : (procs : Procs) (d : ℕ) (γ : Environment) (v : Plain) (k : Core) (r : Result (Unit {0}) RunFault) {P : Type 0} → OnOk r P → (P → (w : Plain) × Derives procs d γ v k w) →
    ((place : ℕ) → r ≡ Err (TooDeep place) → Exceeds procs d γ v k place) → (place : ℕ) → Exceeds procs d γ v k place → IsRefusedAt r place
is_refused procs d γ v k (Ok u) p g f place a = never_both (g p).1 a
is_refused procs d γ v k (Err (TooDeep at)) p g f place a = exceeds_one (f at refl) a
is_refused procs d γ v k (Err (Memory x)) p g f place a = tt

pub no_error : (P : Type 0) (r : Result (Unit {0}) RunFault) → is_err r ≡ false → OnErr r P
no_error P (Ok u) e = tt
no_error P (Err x) e = cc

pub an_error : {P : Type 0} (r : Result (Unit {0}) RunFault) → P → OnErr r P
an_error (Ok u) p = tt
an_error (Err x) p = p
