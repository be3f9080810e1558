use Rattle.flux_trees.proofs.EditLaws.{erase-plain}
use Rattle.flux_plain.proofs.plain.PlainEditorEditor.snapshot.Goals as goal

pub returns : goal.returns
returns c = rw (erase-plain c.args.self.now.current.focus) c.trees.ensures
