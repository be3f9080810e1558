use Rattle.std.proofs.Common.{◌∙◌, sym, ap}
use Rattle.flux_run.proofs.Whole.{taken_back, no_error, an_error}
use Rattle.flux_run.proofs.runs.run.Goals as goal
use Rattle.flux_run.proofs.runs.run.Goals.{then-is_err, else-is_err}

pub returns-clause-as_before : goal.returns-clause-as_before
returns-clause-as_before g c = elim c.if-is_err.branch [
  | then-is_err w ↦ an_error c.perform-outcome.result (ap g.E.Editor.state w.editor-is ∙ taken_back g.E.Editor.notation (g.E.Editor.state c.args.editor.now) (g.E.Editor.state c.perform-outcome.new.editor) (g.E.Editor.state w.rollback.new.self) _ c.requires.frames c.perform-outcome.ensures.goes_on c.mark-mark.ensures w.rollback.ensures)
  | else-is_err w ↦ no_error _ c.perform-outcome.result (sym c.is_err.ensures.value ∙ w.if-is_err.false)
]
