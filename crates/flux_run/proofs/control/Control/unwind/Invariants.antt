use Rattle.std.proofs.Common.{◌≡◌, vec_len}
use Rattle.flux_run.specs.Machine.{below, AreBound}
use Rattle.flux_run.specs.Tasks.{tasks_of}
use Rattle.flux_run.proofs.control.Control.unwind.Given as goal

abbrev pub invariant-tasks : goal.invariant-tasks
invariant-tasks l = record {
  bound : AreBound (tasks_of l.self.tasks.items) l.self.env;
  same : below (tasks_of l.self.tasks.items) l.self.env ≡ below (tasks_of l.fn.self.tasks.items) l.fn.self.env;
}

abbrev pub decreases-tasks : goal.decreases-tasks
decreases-tasks l = vec_len l.self.tasks
