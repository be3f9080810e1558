-- What the control of a run holds.
use Rattle.std.specs.Prelude.{List, map, reverse}
use Rattle.flux_calculus.specs.Core.{in_order}
use Rattle.flux_core.specs.Statements.{core_of}
use Rattle.flux_run.specs.Machine as machine
use Rattle.flux_run.specs.Machine.{Left}
use Rattle.flux_run.specs.declared.control.Task.{Task}
use Rattle.flux_run.specs.declared.control.Task.TheVariants.{Do, Rest, Up, Widen, Again, Unbind, Return}
use Rattle.flux_run.specs.declared.control.Control.{Control}

-- the rest of several statements is a statement too
abbrev pub task_of : Task → machine.Task
task_of (Do s) = machine.Do (core_of s.now)
task_of (Rest ss at) = machine.Do (in_order at (map core_of ss.now))
task_of Up = machine.Up
task_of Widen = machine.Widen
task_of (Again s) = machine.Again (core_of s.now)
task_of Unbind = machine.Unbind
task_of (Return depth env) = machine.Return depth env

-- the last one is the next to be done
abbrev pub tasks_of : List Task → List machine.Task
tasks_of ts = reverse (map task_of ts)

abbrev pub left_of : Control → Left
left_of c = record { tasks = tasks_of c.tasks.items; depth = c.depth; env = c.env }
