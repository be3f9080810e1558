use Rattle.std.proofs.Common.{◌≡◌, ◌∙◌, sym, ap, ◌∷◌}
use Rattle.flux_core.specs.Statements.{core_of, procs_of}
use Rattle.flux_run.specs.Machine.{Do, before}
use Rattle.flux_run.specs.Running.{comes_to}
use Rattle.flux_run.specs.Tasks.{task_of, left_of}
use Rattle.flux_run.proofs.Turns.{stays_on}
use Rattle.flux_run.proofs.Whole.{left_is, continues-trans, begins_frames, begins_bound, begins_env, hands_same, hands_frames, hands_bound, hands_env}
use Rattle.flux_run.proofs.runs.go_through.Goals as goal

pub returns-in_err-make_room-clause-goes_on : goal.returns-in_err-make_room-clause-goes_on
returns-in_err-make_room-clause-goes_on g c = stays_on _ _

pub tasks-init : goal.tasks-init
tasks-init g c =
    let first : left_of c.put.new.self ≡ before (Do (core_of c.args.core.now)) (left_of c.args.control.now) =
    left_is (c.put.ensures.tasks ∙ ap (λ ts. Do (core_of c.args.core.now) ∷ ts) c.make_room.ensures.tasks) (c.put.ensures.depth ∙ c.make_room.ensures.depth) (c.put.ensures.env ∙ c.make_room.ensures.env) in
    let at = g.E.Editor.state c.args.editor.now in
    let k = core_of c.args.core.now in
    record {
      same = ap (λ l. comes_to g.E.Editor.notation (procs_of c.args.procs.now) l at) first;
      frames = begins_frames k (left_of c.args.control.now) (left_of c.put.new.self) c.requires.tasks first at.frames;
      goes_on = stays_on _ at;
      bound = begins_bound k (left_of c.args.control.now) (left_of c.put.new.self) c.requires.tasks first;
      env = begins_env k (left_of c.args.control.now) (left_of c.put.new.self) c.requires.tasks first;
    }

pub tasks-preserved : goal.tasks-preserved
tasks-preserved g c =
    let next : left_of c.tasks.control ≡ before (task_of c.in-Some.task) (left_of c.pop.new.self) = left_is c.in-Some.ensures.tasks (sym c.pop.ensures.depth) (sym c.pop.ensures.env) in
    let turn = c.in_ok-step.ensures.ok in
    let procs = procs_of c.args.procs.now in
    let l = left_of c.tasks.control in
    let m = left_of c.pop.new.self in
    let k = left_of c.step.new.control in
    let s = g.E.Editor.state c.tasks.editor in
    let s' = g.E.Editor.state c.step.new.editor in
    record {
      same = hands_same _ procs l m k s s' _ next turn c.tasks.invariant.same;
      frames = hands_frames _ procs l m k s s' _ next turn c.tasks.invariant.frames;
      goes_on = continues-trans _ c.tasks.invariant.goes_on turn.goes_on;
      bound = hands_bound _ procs l m k s s' _ next turn c.tasks.invariant.bound;
      env = hands_env _ procs l m k s s' _ next turn c.tasks.invariant.env;
    }
