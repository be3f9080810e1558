use Rattle.flux_plain.proofs.FrameLaws.{gathered, last_frame}
use Rattle.flux_plain.proofs.zipper.Zipper.gather.Goals as goal

pub step_back-requires : goal.step_back-requires
step_back-requires c = last_frame c.args.self.now c.requires

pub returns : goal.returns
returns c = gathered c.args.self.now _ c.requires c.step_back.ensures
