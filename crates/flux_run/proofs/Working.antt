-- The steps that are no beginning of a statement.
use Rattle.std.proofs.Common.{◌≡◌, ◌⊎◌, inl, inr, ℕ, drop}
use Rattle.flux_calculus.specs.Query.{Environment}
use Rattle.flux_calculus.specs.Core.{Core, Procs}
use Rattle.flux_calculus.specs.Notation.{Notation}
use Rattle.flux_editor.specs.Editing.{State, CameUp, Widened, WentToNext, Gathered}
use Rattle.flux_run.specs.Machine.{Task, Do, Up, Widen, Again, Unbind, Return, Left, before}
use Rattle.flux_run.specs.Running.{Turn}
use Rattle.flux_run.proofs.Turns.{turn_up, turn_widen, turn_again, turn_gather, turn_unbind, turn_return}

module _ {N M : Type 0} (notation : Notation N M) (procs : Procs) (l l' : Left) (s s' : State N M) (t : Task) where
  abbrev Works : Type 0
  Works = Turn notation procs (before t l) s l' s'

  pub work_do : (k : Core) → t ≡ Do k → Turn notation procs (before (Do k) l) s l' s' → Works
  work_do k e h = rw e h

  pub work_up : t ≡ Up → l' ≡ l → CameUp s s' → Works
  work_up e f h = rw e (rw f (turn_up notation procs l s s' h))

  pub work_widen : t ≡ Widen → l' ≡ l → Widened s s' → Works
  work_widen e f h = rw e (rw f (turn_widen notation procs l s s' h))

  pub work_again : (c : Core) → t ≡ Again c → (WentToNext s s' × (l' ≡ before (Do c) (before (Again c) l))) ⊎ (Gathered s s' × (l' ≡ l)) → Works
  work_again c e (inl h) = rw e (rw (h.1) (turn_again notation procs l c s s' (h.0)))
  work_again c e (inr h) = rw e (rw (h.1) (turn_gather notation procs l c s s' (h.0)))

  pub work_unbind : t ≡ Unbind → l' ≡ record { tasks = l.tasks; depth = l.depth; env = drop 1 l.env } → s' ≡ s → Works
  work_unbind e f g = rw e (rw f (rw g (turn_unbind notation procs l s)))

  pub work_return : (d : ℕ) (δ : Environment) → t ≡ Return d δ → l' ≡ record { tasks = l.tasks; depth = d; env = δ } → s' ≡ s → Works
  work_return d δ e f g = rw e (rw f (rw g (turn_return notation procs l d δ s)))
