use Rattle.std.proofs.Common.{refl, ap, subst}
use Rattle.flux_core.specs.Statements.{procs_of}
use Rattle.flux_run.specs.Machine.{before}
use Rattle.flux_run.specs.Running.{Safe}
use Rattle.flux_run.specs.Tasks.{task_of, left_of}
use Rattle.flux_run.proofs.Fitting.{fits_widen}
use Rattle.flux_run.proofs.Starting.{start_rest}
use Rattle.flux_run.proofs.Working.{work_do, work_up, work_widen, work_again, work_unbind, work_return}
use Rattle.flux_run.proofs.steps.step.Goals as goal

pub widen-requires : goal.widen-requires
widen-requires g c =
    fits_widen _ (procs_of c.args.procs.now) (left_of c.args.control.now) (g.E.Editor.state c.args.editor.now)
    (subst (λ t. Safe g.E.Editor.notation (procs_of c.args.procs.now) (before t (left_of c.args.control.now)) (g.E.Editor.state c.args.editor.now)) (ap task_of c.in-Widen.is) c.requires.safe)

pub returns-in_ok-start_rest-in-Rest-clause-ok : goal.returns-in_ok-start_rest-in-Rest-clause-ok
returns-in_ok-start_rest-in-Rest-clause-ok g c =
    work_do _ (procs_of c.args.procs.now) (left_of c.args.control.now) (left_of c.start_rest.new.control) (g.E.Editor.state c.args.editor.now) (g.E.Editor.state c.args.editor.now) (task_of c.args.task) _ (ap task_of c.in-Rest.is)
    (start_rest _ (procs_of c.args.procs.now) (left_of c.args.control.now) (left_of c.start_rest.new.control) (g.E.Editor.state c.args.editor.now) (g.E.Editor.state c.args.editor.now) _ c.in-Rest.at c.in-Rest.statements.now refl refl c.in_ok-start_rest-in-Rest.ensures.ok)

pub returns-in-Up-clause-ok : goal.returns-in-Up-clause-ok
returns-in-Up-clause-ok g c = work_up _ (procs_of c.args.procs.now) (left_of c.args.control.now) (left_of c.args.control.now) (g.E.Editor.state c.args.editor.now) (g.E.Editor.state c.up.new.self) (task_of c.args.task) (ap task_of c.in-Up.is) refl c.up.ensures

pub returns-in-Widen-clause-ok : goal.returns-in-Widen-clause-ok
returns-in-Widen-clause-ok g c = work_widen _ (procs_of c.args.procs.now) (left_of c.args.control.now) (left_of c.args.control.now) (g.E.Editor.state c.args.editor.now) (g.E.Editor.state c.widen.new.self) (task_of c.args.task) (ap task_of c.in-Widen.is) refl c.widen.ensures

pub returns-in_ok-go_on-in-Again-clause-ok : goal.returns-in_ok-go_on-in-Again-clause-ok
returns-in_ok-go_on-in-Again-clause-ok g c = work_again _ (procs_of c.args.procs.now) (left_of c.args.control.now) (left_of c.go_on.new.control) (g.E.Editor.state c.args.editor.now) (g.E.Editor.state c.go_on.new.editor) (task_of c.args.task) _ (ap task_of c.in-Again.is) c.in_ok-go_on-in-Again.ensures.ok

pub returns-in-Unbind-clause-ok : goal.returns-in-Unbind-clause-ok
returns-in-Unbind-clause-ok g c =
    work_unbind _ (procs_of c.args.procs.now) (left_of c.args.control.now) (left_of (record { tasks = c.args.control.now.tasks; depth = c.args.control.now.depth; env = c.unbind.new.self })) (g.E.Editor.state c.args.editor.now) (g.E.Editor.state c.args.editor.now) (task_of c.args.task) (ap task_of c.in-Unbind.is)
    (ap (λ γ. record { tasks = (left_of c.args.control.now).tasks; depth = (left_of c.args.control.now).depth; env = γ }) c.unbind.ensures) refl

pub returns-in-Return-clause-ok : goal.returns-in-Return-clause-ok
returns-in-Return-clause-ok g c =
    work_return _ (procs_of c.args.procs.now) (left_of c.args.control.now) (left_of (record { tasks = c.args.control.now.tasks; depth = c.in-Return.depth; env = c.in-Return.env })) (g.E.Editor.state c.args.editor.now) (g.E.Editor.state c.args.editor.now) (task_of c.args.task) c.in-Return.depth c.in-Return.env (ap task_of c.in-Return.is) refl refl
