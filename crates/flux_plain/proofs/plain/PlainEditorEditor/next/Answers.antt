use Rattle.flux_plain.proofs.PastLaws.{next_carried}
use Rattle.flux_plain.proofs.plain.PlainEditorEditor.next.Goals as goal

pub returns-clause-more : goal.returns-clause-more
returns-clause-more c more =
    next_carried c.args.self.now.earlier.items c.args.self.now.current _ (c.next.ensures.more more)
