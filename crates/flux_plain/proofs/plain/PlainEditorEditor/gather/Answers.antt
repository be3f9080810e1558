use Rattle.flux_plain.proofs.PastLaws.{gather_carried}
use Rattle.flux_plain.proofs.plain.PlainEditorEditor.gather.Goals as goal

pub returns : goal.returns
returns c =
    gather_carried c.args.self.now.earlier.items c.args.self.now.current _ c.gather.ensures
