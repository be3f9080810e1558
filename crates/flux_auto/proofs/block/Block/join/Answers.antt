use Rattle.std.proofs.Common.{arith}
use Rattle.flux_auto.proofs.Blocks.{joined_blocks}
use Rattle.flux_auto.proofs.block.Block.join.Goals as goal

pub returns-clause-joined : goal.returns-clause-joined
returns-clause-joined c = λ t s. joined_blocks c.args.self.now c.args.other s (omega (arith, c.if-self-other.false))
