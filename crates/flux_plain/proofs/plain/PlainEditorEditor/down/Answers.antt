use Rattle.std.proofs.lemmas.Result.{on_ok_weaker}
use Rattle.flux_plain.proofs.PastLaws.{down_carried}
use Rattle.flux_plain.proofs.plain.PlainEditorEditor.down.Goals as goal

pub returns-clause-ok : goal.returns-clause-ok
returns-clause-ok c =
    on_ok_weaker c.down.result (down_carried c.args.self.now.earlier.items c.args.self.now.current _) c.down.ensures.ok
