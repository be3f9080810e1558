use Rattle.std.proofs.Common.{sym, ◌∙◌}
use Rattle.flux_atom.proofs.ReadLaws.{number_push}
use Rattle.flux_atom.proofs.read.read_digits.Goals as goal

pub loop-len-preserved : goal.loop-len-preserved
loop-len-preserved c =
    number_push c.args.first c.loop-len.state c.in-Some.next c.args.bytes.now c.loop-len.len c.loop-len-test.true c.loop-len.invariant (sym c.step.ensures ∙ c.in-Some.is)
