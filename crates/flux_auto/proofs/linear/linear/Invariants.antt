use Rattle.flux_types.specs.Read.{ty_of}
use Rattle.flux_auto.specs.Pending.{all_effort}
use Rattle.flux_auto.proofs.Measures.{effort_of}
use Rattle.flux_auto.proofs.Tasks.{Runs}
use Rattle.flux_auto.proofs.linear.linear.Given as goal

abbrev pub invariant-loop-task : goal.invariant-loop-task
invariant-loop-task l = Runs l.defs l.nullable l.fn.table (ty_of l.fn.ty) l.fn.next l.table l.work.tasks.items l.work.edges.items

abbrev pub decreases-loop-task : goal.decreases-loop-task
decreases-loop-task l = all_effort (effort_of l.defs) l.work.tasks.items
