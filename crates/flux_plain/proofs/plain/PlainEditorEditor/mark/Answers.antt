use Rattle.std.proofs.Common.{arith}
use Rattle.flux_plain.specs.Moves.{whole}
use Rattle.flux_plain.proofs.PastLaws.{length-moments}
use Rattle.flux_plain.proofs.plain.PlainEditorEditor.mark.Goals as goal

pub returns : goal.returns
returns c =
    omega (arith, c.len.ensures, length-moments c.args.self.now.earlier.items (whole c.args.self.now.current))
