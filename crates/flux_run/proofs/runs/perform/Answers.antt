use Rattle.std.proofs.Common.{◌∙◌}
use Rattle.std.proofs.lemmas.Result.{on_ok_weaker}
use Rattle.flux_trees.specs.Hedge.{erase}
use Rattle.flux_core.specs.Statements.{core_of, procs_of}
use Rattle.flux_run.specs.Tasks.{left_of}
use Rattle.flux_run.proofs.Whole.{left_is, can_safe, gives_performed, deep_exceeds, is_done, is_refused}
use Rattle.flux_run.proofs.runs.perform.Goals as goal

pub go_through-outcome-requires-clause-safe : goal.go_through-outcome-requires-clause-safe
go_through-outcome-requires-clause-safe g c =
    can_safe _ (procs_of c.args.procs.now) c.args.depth c.args.env.now (core_of c.args.core.now) (left_of c.new-control.result) (g.E.Editor.state c.args.editor.now) c.requires
    (left_is c.new-control.ensures.tasks c.new-control.ensures.depth (c.new-control.ensures.env ∙ c.replace.ensures.value))

pub returns-clause-ok : goal.returns-clause-ok
returns-clause-ok g c =
    on_ok_weaker c.go_through-outcome.result
    (λ h. gives_performed _ (procs_of c.args.procs.now) c.args.depth c.args.env.now (core_of c.args.core.now) (left_of c.new-control.result) (g.E.Editor.state c.args.editor.now) (g.E.Editor.state c.go_through-outcome.new.editor)
    (left_is c.new-control.ensures.tasks c.new-control.ensures.depth (c.new-control.ensures.env ∙ c.replace.ensures.value)) h)
    c.go_through-outcome.ensures.ok

pub returns-clause-deep : goal.returns-clause-deep
returns-clause-deep g c = λ place e.
    deep_exceeds g.E.Editor.notation (procs_of c.args.procs.now) c.args.depth c.args.env.now (core_of c.args.core.now) (left_of c.new-control.result) (g.E.Editor.state c.args.editor.now) place
    (left_is c.new-control.ensures.tasks c.new-control.ensures.depth (c.new-control.ensures.env ∙ c.replace.ensures.value)) (c.go_through-outcome.ensures.deep place e)

pub returns-clause-done : goal.returns-clause-done
returns-clause-done g c =
    is_done (procs_of c.args.procs.now) c.args.depth c.args.env.now (erase (g.E.Editor.state c.args.editor.now).focus) (core_of c.args.core.now) c.go_through-outcome.result (returns-clause-deep g c)

pub returns-clause-refused : goal.returns-clause-refused
returns-clause-refused g c =
    is_refused (procs_of c.args.procs.now) c.args.depth c.args.env.now (erase (g.E.Editor.state c.args.editor.now).focus) (core_of c.args.core.now) c.go_through-outcome.result (returns-clause-ok g c) (λ p. (_, p.erased)) (returns-clause-deep g c)
