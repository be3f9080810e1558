use Rattle.std.proofs.Common.{IsTrue, false}
use Rattle.flux_plain.proofs.FrameLaws.{some_frame}
use Rattle.flux_plain.proofs.zipper.Zipper.leave.Goals as goal

pub step_back-requires : goal.step_back-requires
step_back-requires c =
    let test = c.loop-self-test.ensures in
    some_frame c.loop-self.self.frames (λ e. let no : IsTrue false = test.1 e in cc)
