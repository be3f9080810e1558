-- What a run has still to do, and what comes of it: a continuation as data.
use Rattle.std.specs.Prelude.{ℕ, ◌-◌, ◌<◌, List, [], ◌∷◌, length, drop}
use Rattle.flux_trees.specs.Hedge.{Hedge, Plain, nil, elem, join}
use Rattle.flux_trees.specs.Frame.{Frame, Down, Before, After, Each}
use Rattle.flux_calculus.specs.declared.ask.Var.{Var}
use Rattle.flux_calculus.specs.Query.{Environment}
use Rattle.flux_calculus.specs.Core.{Core, Procs}
use Rattle.flux_calculus.specs.Ending.{Answers, Goes, on_each, does}

-- a statement on the focus; back from an element's content, from beside a run, from one of several
-- trees to the next one, with the statement for each; back to what a variable hid; back from the
-- body of a procedure, to the calls to go and the environment of its caller
pub data Task : Type 0 where
  Do : (s : Core) → Task
  Up : Task
  Widen : Task
  Again : (s : Core) → Task
  Unbind : Task
  Return : (depth : ℕ) (γ : Environment) → Task

-- what is left of a run: tasks, the next one first, the calls to go, and what is bound
pub record Left : Type 0 where
  pub tasks : List Task
  pub depth : ℕ
  pub env : Environment

-- with a task before the others
abbrev pub before : Task → Left → Left
before t l = record { tasks = t ∷ l.tasks; depth = l.depth; env = l.env }

-- a statement is next, with a variable bound until it is done
abbrev pub binding_first : Var → Plain → Core → Left → Left
binding_first x u s l =
    record { tasks = Do s ∷ Unbind ∷ l.tasks; depth = l.depth; env = (x, u) ∷ l.env }

-- the body of a procedure is next, with a call less to go, and its parameters alone bound
abbrev pub calling : Core → Environment → Left → Left
calling s δ l =
    record { tasks = Do s ∷ Return l.depth l.env ∷ l.tasks; depth = l.depth - 1; env = δ }

module _ {N A : Type 0} (ans : Answers N A) where
  -- what is done under frames with a focus
  abbrev Resumes : Type 0
  Resumes = List (Frame N) → Hedge N → A

  abbrev pub up_in : Resumes → Resumes
  up_in k (Down m n ∷ fs) v = ans.step (k fs (elem m n v nil))
  up_in k _ v = ans.stuck

  abbrev pub widen_in : Resumes → Resumes
  widen_in k (Before w ∷ fs) v = ans.step (k fs (join v w))
  widen_in k (After w ∷ fs) v = ans.step (k fs (join w v))
  widen_in k _ v = ans.stuck

  abbrev pub again_in : Goes N A → Resumes → Resumes
  again_in go k (Each done rest ∷ fs) v = on_each ans go fs (join done v) rest (k fs)
  again_in go k _ v = ans.stuck

  -- what comes of a focus under frames, the innermost first, where these tasks are left
  abbrev pub resume : Procs → (Hedge N → A) → List Task → ℕ → Environment →
      List (Frame N) → Hedge N → A
  resume procs end [] d γ fs v = end v
  resume procs end (Do s ∷ ts) d γ fs v = does ans procs d γ s fs v (resume procs end ts d γ fs)
  resume procs end (Up ∷ ts) d γ fs v = up_in (resume procs end ts d γ) fs v
  resume procs end (Widen ∷ ts) d γ fs v = widen_in (resume procs end ts d γ) fs v
  resume procs end (Again s ∷ ts) d γ fs v =
      again_in (does ans procs d γ s) (resume procs end ts d γ) fs v
  resume procs end (Unbind ∷ ts) d γ fs v = ans.step (resume procs end ts d (drop 1 γ) fs v)
  resume procs end (Return e δ ∷ ts) d γ fs v = ans.step (resume procs end ts e δ fs v)

-- all frames but the innermost
abbrev pub outside : {N : Type 0} → List (Frame N) → List (Frame N)
outside [] = []
outside (f ∷ fs) = fs

-- the frames that no task takes away
abbrev pub outer : {N : Type 0} → List Task → List (Frame N) → List (Frame N)
outer [] fs = fs
outer (Do s ∷ ts) fs = outer ts fs
outer (Up ∷ ts) fs = outer ts (outside fs)
outer (Widen ∷ ts) fs = outer ts (outside fs)
outer (Again s ∷ ts) fs = outer ts (outside fs)
outer (Unbind ∷ ts) fs = outer ts fs
outer (Return e δ ∷ ts) fs = outer ts fs

-- what is bound once no task is left
abbrev pub below : List Task → Environment → Environment
below [] γ = γ
below (Do s ∷ ts) γ = below ts γ
below (Up ∷ ts) γ = below ts γ
below (Widen ∷ ts) γ = below ts γ
below (Again s ∷ ts) γ = below ts γ
below (Unbind ∷ ts) γ = below ts (drop 1 γ)
below (Return e δ ∷ ts) γ = below ts δ

-- something is bound wherever a task takes back what was bound last
abbrev pub AreBound : List Task → Environment → Type 0
AreBound [] γ = Unit {0}
AreBound (Do s ∷ ts) γ = AreBound ts γ
AreBound (Up ∷ ts) γ = AreBound ts γ
AreBound (Widen ∷ ts) γ = AreBound ts γ
AreBound (Again s ∷ ts) γ = AreBound ts γ
AreBound (Unbind ∷ ts) γ = (0 < length γ) × AreBound ts (drop 1 γ)
AreBound (Return e δ ∷ ts) γ = AreBound ts δ
