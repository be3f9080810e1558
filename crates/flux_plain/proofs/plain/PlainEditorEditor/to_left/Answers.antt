use Rattle.std.proofs.lemmas.Result.{on_ok_weaker}
use Rattle.flux_plain.proofs.PastLaws.{left_carried}
use Rattle.flux_plain.proofs.plain.PlainEditorEditor.to_left.Goals as goal

pub returns-clause-ok : goal.returns-clause-ok
returns-clause-ok c =
    on_ok_weaker c.to_left.result (left_carried c.args.self.now.earlier.items c.args.self.now.current _) c.to_left.ensures.ok
