-- A run over an editor: how it ends from a moment on, what a step keeps, and what comes of it all.
use Rattle.std.specs.Prelude.{◌≡◌, ◌≢◌, ◌⊎◌, ℕ, zero, suc, List, ◌++◌}
use Rattle.flux_trees.specs.Hedge.{Plain, erase}
use Rattle.flux_calculus.specs.Query.{Environment}
use Rattle.flux_calculus.specs.Core.{Core, Procs}
use Rattle.flux_calculus.specs.Derives.{Derives, Exceeds}
use Rattle.flux_calculus.specs.Notation.{Notation, Later}
use Rattle.flux_calculus.specs.Noted.{DerivesNoted}
use Rattle.flux_calculus.specs.NotedEnding.{NotedEnding, GivesNoted, NotedStuck, noted_endings, step_counts}
use Rattle.flux_editor.specs.Editing.{Moment, State, past}
use Rattle.flux_run.specs.Machine.{Left, resume, outer, below, AreBound}

-- a statement makes a forest of another, or meets a call with none to go
abbrev pub CanRun : Procs → ℕ → Environment → Plain → Core → Type 0
CanRun procs d γ v s =
    ((w : Plain) × Derives procs d γ v s w) ⊎ ((place : ℕ) × Exceeds procs d γ v s place)

module _ {N M : Type 0} (notation : Notation N M) where
  -- the moments of before are still there, and the marks are later ones
  pub record Continues (old new : State N M) : Type 0 where
    pub more : List (Moment N M)
    pub past : past new ≡ past old ++ more
    pub later : Later notation old.marks new.marks

  -- what a statement makes of the focus; the frames stay
  pub record Performed (procs : Procs) (d : ℕ) (γ : Environment) (s : Core) (old new : State N M) :
      Type 0 where
    pub derives : DerivesNoted notation procs d γ old.frames old.focus old.marks s
        new.focus new.marks
    pub erased : Derives procs d γ (erase old.focus) s (erase new.focus)
    pub frames : new.frames ≡ old.frames

  module _ (procs : Procs) where
    -- how the run ends from here on
    abbrev pub comes_to : Left → State N M → NotedEnding N M
    comes_to l s =
        resume (noted_endings notation) procs GivesNoted l.tasks l.depth l.env
        s.frames s.focus s.marks

    -- how many steps are left
    abbrev pub steps : Left → State N M → ℕ
    steps l s =
        resume (step_counts notation) procs (λ v m. zero) l.tasks l.depth l.env
        s.frames s.focus s.marks

    -- what is left fits the focus
    pub record Safe (l : Left) (s : State N M) : Type 0 where
      pub safe : comes_to l s ≢ NotedStuck

    -- a step: the run ends as before, with a step less to go
    pub record Turn (l : Left) (s : State N M) (l' : Left) (s' : State N M) : Type 0 where
      pub same : comes_to l s ≡ comes_to l' s'
      pub less : steps l s ≡ suc (steps l' s')
      pub frames : outer l.tasks s.frames ≡ outer l'.tasks s'.frames
      pub env : below l.tasks l.env ≡ below l'.tasks l'.env
      pub bound : AreBound l.tasks l.env → AreBound l'.tasks l'.env
      pub goes_on : Continues s s'

    -- a refused step: the focus is as before, and so is what is bound once all tasks are gone
    pub record Refused (l : Left) (s : State N M) (l' : Left) (s' : State N M) : Type 0 where
      pub state : s' ≡ s
      pub env : below l'.tasks l'.env ≡ below l.tasks l.env
      pub bound : AreBound l.tasks l.env → AreBound l'.tasks l'.env
