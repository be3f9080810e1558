-- How a run over a forest with notes on its nodes ends, and how many steps it takes: what a
-- statement does, for answers that depend on the marks beside the forest.
use Rattle.std.specs.Prelude.{ℕ, zero, suc, List, []}
use Rattle.flux_trees.specs.Hedge.{Hedge, Plain, erase}
use Rattle.flux_trees.specs.Frame.{Frame}
use Rattle.flux_calculus.specs.Query.{Environment}
use Rattle.flux_calculus.specs.Core.{Core, Procs}
use Rattle.flux_calculus.specs.Ending.{Answers, does, Ending, Gives, TooDeep, Stuck}
use Rattle.flux_calculus.specs.Notation.{Notation, insertion, deletion}

-- with a forest and marks, at a call with none left, or with a forest that doesn't fit
pub data NotedEnding (N M : Type 0) : Type 0 where
  GivesNoted : Hedge N → M → NotedEnding N M
  NotedTooDeep : (place : ℕ) → NotedEnding N M
  NotedStuck : NotedEnding N M

module _ {N M : Type 0} (notation : Notation N M) where
  -- edits change the marks; steps leave no trace
  abbrev pub noted_endings : Answers N (M → NotedEnding N M)
  noted_endings = record {
    step = λ f. f;
    too_deep = λ place m. NotedTooDeep place;
    stuck = λ m. NotedStuck;
    seen = erase;
    inserted = λ fs w k m. k (insertion notation fs w m).0 (insertion notation fs w m).1;
    deleted = λ fs v f m. f (deletion notation fs v m);
    renamed = λ note a b f m. f (notation.relabelled note a b m);
  }

  -- each step counts
  abbrev pub step_counts : Answers N (M → ℕ)
  step_counts = record {
    step = λ f m. suc (f m);
    too_deep = λ place m. zero;
    stuck = λ m. zero;
    seen = erase;
    inserted = λ fs w k m. k (insertion notation fs w m).0 (insertion notation fs w m).1;
    deleted = λ fs v f m. f (deletion notation fs v m);
    renamed = λ note a b f m. f (notation.relabelled note a b m);
  }

  -- how a statement ends under frames, the innermost first
  abbrev pub noted_ending : Procs → ℕ → Environment → Core → List (Frame N) → Hedge N → M →
      NotedEnding N M
  noted_ending procs d γ s fs v m = does noted_endings procs d γ s fs v GivesNoted m

-- the same without notes
abbrev pub erase_ending : {N M : Type 0} → NotedEnding N M → Ending
erase_ending (GivesNoted v m) = Gives (erase v)
erase_ending (NotedTooDeep place) = TooDeep place
erase_ending NotedStuck = Stuck
