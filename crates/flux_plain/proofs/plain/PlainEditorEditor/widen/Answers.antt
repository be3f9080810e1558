use Rattle.flux_plain.proofs.PastLaws.{widen_carried}
use Rattle.flux_plain.proofs.plain.PlainEditorEditor.widen.Goals as goal

pub returns : goal.returns
returns c =
    widen_carried c.args.self.now.earlier.items c.args.self.now.current _ c.widen.ensures
