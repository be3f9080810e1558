use Rattle.std.proofs.lemmas.Result.{on_ok_weaker}
use Rattle.flux_plain.proofs.PastLaws.{right_carried}
use Rattle.flux_plain.proofs.plain.PlainEditorEditor.to_right.Goals as goal

pub returns-clause-ok : goal.returns-clause-ok
returns-clause-ok c =
    on_ok_weaker c.to_right.result (right_carried c.args.self.now.earlier.items c.args.self.now.current _) c.to_right.ensures.ok
