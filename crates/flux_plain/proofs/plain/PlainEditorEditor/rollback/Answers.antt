use Rattle.std.proofs.Common.{arith}
use Rattle.flux_plain.specs.Moves.{whole}
use Rattle.flux_plain.proofs.PastLaws.{length-moments, taken_back}
use Rattle.flux_plain.proofs.plain.PlainEditorEditor.rollback.Goals as goal

pub go_back-requires : goal.go_back-requires
go_back-requires c =
    omega (arith, c.requires, length-moments c.args.self.now.earlier.items (whole c.args.self.now.current))

pub returns : goal.returns
returns c =
    taken_back c.args.self.now.earlier.items c.go_back.new.earlier.items c.args.self.now.current c.go_back.new.current c.leave.new.self c.args.mark.changes c.go_back.ensures c.leave.ensures
