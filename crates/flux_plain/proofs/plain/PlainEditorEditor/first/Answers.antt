use Rattle.flux_plain.proofs.PastLaws.{first_carried}
use Rattle.flux_plain.proofs.plain.PlainEditorEditor.first.Goals as goal

pub returns-clause-more : goal.returns-clause-more
returns-clause-more c more =
    first_carried c.args.self.now.earlier.items c.args.self.now.current _ (c.first.ensures.more more)
