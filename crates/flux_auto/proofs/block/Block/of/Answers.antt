use Rattle.flux_auto.proofs.Blocks.{one_state}
use Rattle.flux_auto.proofs.block.Block.of.Goals as goal

pub returns : goal.returns
returns c = λ s. one_state c.args.state s
