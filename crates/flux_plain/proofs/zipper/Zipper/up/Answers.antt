use Rattle.flux_plain.proofs.FrameLaws.{came_up, down_frame}
use Rattle.flux_plain.proofs.zipper.Zipper.up.Goals as goal

pub step_back-requires : goal.step_back-requires
step_back-requires c = down_frame c.args.self.now c.requires

pub returns : goal.returns
returns c = came_up c.args.self.now _ c.requires c.step_back.ensures
