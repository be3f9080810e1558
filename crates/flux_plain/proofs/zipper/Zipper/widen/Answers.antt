use Rattle.flux_plain.proofs.FrameLaws.{widened, side_frame}
use Rattle.flux_plain.proofs.zipper.Zipper.widen.Goals as goal

pub step_back-requires : goal.step_back-requires
step_back-requires c = side_frame c.args.self.now c.requires

pub returns : goal.returns
returns c = widened c.args.self.now _ c.requires c.step_back.ensures
