use Rattle.flux_plain.proofs.PastLaws.{up_carried}
use Rattle.flux_plain.proofs.plain.PlainEditorEditor.up.Goals as goal

pub returns : goal.returns
returns c =
    up_carried c.args.self.now.earlier.items c.args.self.now.current _ c.up.ensures
