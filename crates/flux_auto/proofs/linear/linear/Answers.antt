use Rattle.std.proofs.Common.{◌∙◌, ◌++◌, ◌∷◌, List, [], length, drop, true, ap, subst, refl, arith}
use Rattle.flux_types.specs.Read.{ty_of}
use Rattle.flux_auto.specs.declared.edge.Edge.{Edge}
use Rattle.flux_auto.specs.declared.linear.Task.TheVariants.{Read}
use Rattle.flux_auto.specs.Built.{IsSet}
use Rattle.flux_auto.proofs.Measures.{effort_of, effort_of-is}
use Rattle.flux_auto.proofs.Tasks.{runs_begin, comes_read, comes_first, comes_row, runs_read, read_effort, runs_second, second_effort, runs_row, row_effort}
use Rattle.flux_auto.proofs.linear.linear.Goals as goal

pub loop-task-init : goal.loop-task-init
loop-task-init c =
    runs_begin c.args.defs.now c.args.nullable.now c.args.table.now c.args.next c.args.ty c.push.new.self.items c.new-edges.result.items c.requires.ground c.requires.ready c.requires.labels c.requires.tail
    (c.in_ok-push.ensures.items ∙ ap (λ l. l ++ Read c.args.ty c.args.next ∷ []) c.new-tasks.ensures.items) c.new-edges.ensures.items

pub read-requires-clause-ready : goal.read-requires-clause-ready
read-requires-clause-ready c =
    (comes_read c.args.defs.now c.args.nullable.now c.args.table.now c.args.next (ty_of c.args.ty.now) c.loop-task.table c.loop-task.work.tasks.items c.pop.new.self.items c.loop-task.work.edges.items c.in-Some.task
    c.loop-task.invariant c.in-Some.ensures.items c.in-Read.ty c.in-Read.next c.in-Read.is).ready

pub read-requires-clause-labels : goal.read-requires-clause-labels
read-requires-clause-labels c =
    (comes_read c.args.defs.now c.args.nullable.now c.args.table.now c.args.next (ty_of c.args.ty.now) c.loop-task.table c.loop-task.work.tasks.items c.pop.new.self.items c.loop-task.work.edges.items c.in-Some.task
    c.loop-task.invariant c.in-Some.ensures.items c.in-Read.ty c.in-Read.next c.in-Read.is).labels

pub read-requires-clause-tail : goal.read-requires-clause-tail
read-requires-clause-tail c =
    (comes_read c.args.defs.now c.args.nullable.now c.args.table.now c.args.next (ty_of c.args.ty.now) c.loop-task.table c.loop-task.work.tasks.items c.pop.new.self.items c.loop-task.work.edges.items c.in-Some.task
    c.loop-task.invariant c.in-Some.ensures.items c.in-Read.ty c.in-Read.next c.in-Read.is).there

pub loop-task-smaller-in-Continue-branch-2 : goal.loop-task-smaller-in-Continue-branch-2
loop-task-smaller-in-Continue-branch-2 c =
    read_effort c.args.defs.now c.args.nullable.now c.args.table.now c.args.next (ty_of c.args.ty.now) c.loop-task.table c.loop-task.work.tasks.items c.pop.new.self.items c.loop-task.work.edges.items c.in-Some.task
    c.loop-task.invariant c.in-Some.ensures.items (effort_of c.args.defs.now) c.in-Read.ty c.in-Read.next c.read.new.table _ c.read.new.work (effort_of-is c.args.defs.now) c.in-Read.is refl c.in_ok-read-in-Read.ensures.ok

pub loop-task-preserved-in-Continue-branch-2 : goal.loop-task-preserved-in-Continue-branch-2
loop-task-preserved-in-Continue-branch-2 c =
    runs_read c.args.defs.now c.args.nullable.now c.args.table.now c.args.next (ty_of c.args.ty.now) c.loop-task.table c.loop-task.work.tasks.items c.pop.new.self.items c.loop-task.work.edges.items c.in-Some.task
    c.loop-task.invariant c.in-Some.ensures.items c.in-Read.ty c.in-Read.next c.read.new.table _ c.read.new.work c.in-Read.is refl refl c.in_ok-read-in-Read.ensures.grows c.in_ok-read-in-Read.ensures.ok

pub put_second-requires-clause-within : goal.put_second-requires-clause-within
put_second-requires-clause-within c =
    (comes_first c.args.defs.now c.args.nullable.now c.args.table.now c.args.next (ty_of c.args.ty.now) c.loop-task.table c.loop-task.work.tasks.items c.pop.new.self.items c.loop-task.work.edges.items c.in-Some.task
    c.loop-task.invariant c.in-Some.ensures.items c.in-First.pair c.in-First.is).within

pub loop-task-smaller-in-Continue-branch-3 : goal.loop-task-smaller-in-Continue-branch-3
loop-task-smaller-in-Continue-branch-3 c =
    second_effort c.args.defs.now c.args.nullable.now c.args.table.now c.args.next (ty_of c.args.ty.now) c.loop-task.table c.loop-task.work.tasks.items c.pop.new.self.items c.loop-task.work.edges.items c.in-Some.task
    c.loop-task.invariant c.in-Some.ensures.items (effort_of c.args.defs.now) c.in-First.pair c.put_second.new.table _ c.put_second.new.work c.in-First.is refl c.in_ok-put_second-in-First.ensures.ok

pub loop-task-preserved-in-Continue-branch-3 : goal.loop-task-preserved-in-Continue-branch-3
loop-task-preserved-in-Continue-branch-3 c =
    runs_second c.args.defs.now c.args.nullable.now c.args.table.now c.args.next (ty_of c.args.ty.now) c.loop-task.table c.loop-task.work.tasks.items c.pop.new.self.items c.loop-task.work.edges.items c.in-Some.task
    c.loop-task.invariant c.in-Some.ensures.items c.in-First.pair c.put_second.new.table _ c.put_second.new.work c.in-First.is refl refl c.in_ok-put_second-in-First.ensures.grows c.in_ok-put_second-in-First.ensures.ok

pub fill_row-requires-clause-there : goal.fill_row-requires-clause-there
fill_row-requires-clause-there c =
    (comes_row c.args.defs.now c.args.nullable.now c.args.table.now c.args.next (ty_of c.args.ty.now) c.loop-task.table c.loop-task.work.tasks.items c.pop.new.self.items c.loop-task.work.edges.items c.in-Some.task
    c.loop-task.invariant c.in-Some.ensures.items c.in-Row.state c.in-Row.from c.in-Row.is).there

pub fill_row-requires-clause-within : goal.fill_row-requires-clause-within
fill_row-requires-clause-within c =
    let come = comes_row c.args.defs.now c.args.nullable.now c.args.table.now c.args.next (ty_of c.args.ty.now) c.loop-task.table c.loop-task.work.tasks.items c.pop.new.self.items c.loop-task.work.edges.items c.in-Some.task c.loop-task.invariant
    c.in-Some.ensures.items c.in-Row.state c.in-Row.from c.in-Row.is in
    omega (arith, come.within, ap length c.deref.ensures.value)

pub loop-task-smaller : goal.loop-task-smaller
loop-task-smaller c =
    row_effort c.args.defs.now c.args.nullable.now c.args.table.now c.args.next (ty_of c.args.ty.now) c.loop-task.table c.loop-task.work.tasks.items c.pop.new.self.items c.loop-task.work.edges.items c.in-Some.task
    c.loop-task.invariant c.in-Some.ensures.items (effort_of c.args.defs.now) c.in-Row.state c.in-Row.from c.in-Row.is

pub loop-task-preserved : goal.loop-task-preserved
loop-task-preserved c =
    runs_row c.args.defs.now c.args.nullable.now c.args.table.now c.args.next (ty_of c.args.ty.now) c.loop-task.table c.loop-task.work.tasks.items c.pop.new.self.items c.loop-task.work.edges.items c.in-Some.task
    c.loop-task.invariant c.in-Some.ensures.items c.in-Row.state c.in-Row.from c.fill_row.new.table c.in-Row.is
    (subst (λ (l : List Edge). IsSet c.loop-task.table c.fill_row.new.table c.in-Row.state true (drop c.in-Row.from l)) c.deref.ensures.value c.in_ok-fill_row-in-Row.ensures.ok)
