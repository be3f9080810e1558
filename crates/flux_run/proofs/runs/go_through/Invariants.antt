use Rattle.std.proofs.Common.{◌≡◌}
use Rattle.flux_core.specs.Statements.{core_of, procs_of}
use Rattle.flux_run.specs.Machine.{Do, before, outer, below, AreBound}
use Rattle.flux_run.specs.Running.{Continues, comes_to, steps}
use Rattle.flux_run.specs.Tasks.{tasks_of, left_of}
use Rattle.flux_run.proofs.runs.go_through.Given as goal

-- what is left comes to what the whole comes to
abbrev pub invariant-tasks : goal.invariant-tasks
invariant-tasks g l = let E = g.E.Editor in record {
  same : comes_to E.notation (procs_of l.procs) (left_of l.control) (E.state l.editor) ≡ comes_to E.notation (procs_of l.procs) (before (Do (core_of l.core)) (left_of l.fn.control)) (E.state l.fn.editor);
  frames : outer (tasks_of l.control.tasks.items) (E.state l.editor).frames ≡ (E.state l.fn.editor).frames;
  goes_on : Continues E.notation (E.state l.fn.editor) (E.state l.editor);
  bound : AreBound (tasks_of l.control.tasks.items) l.control.env;
  env : below (tasks_of l.control.tasks.items) l.control.env ≡ l.fn.control.env;
}

abbrev pub decreases-tasks : goal.decreases-tasks
decreases-tasks g l = let E = g.E.Editor in steps E.notation (procs_of l.procs) (left_of l.control) (E.state l.editor)
