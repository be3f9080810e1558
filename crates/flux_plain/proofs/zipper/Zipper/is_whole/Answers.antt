use Rattle.std.proofs.Common.{◌≡◌, length, ap, arith}
use Rattle.std.proofs.lemmas.Bool.Decides.{nat_tests}
use Rattle.std.proofs.lemmas.List.{nil_from_length}
use Rattle.std.specs.Vec.{vec_len}
use Rattle.std.specs.Prelude.{◌↔◌, IsTrue}
use Rattle.flux_plain.proofs.LayoutLaws.{seen}
use Rattle.flux_plain.proofs.BackLaws.{frames_length}
use Rattle.flux_plain.proofs.zipper.Zipper.is_whole.Goals as goal

pub returns : goal.returns
returns c =
    let count : length c.self.inside.steps.items ≡ length c.args.self.now.frames = frames_length (seen c.self.invariant.0 c.self.view_is) in
    let held : length c.self.inside.steps.items ≡ vec_len c.self.inside.steps = omega arith in
    let test : IsTrue c.is_empty.result ↔ (length c.args.self.now.frames ≡ 0) = grind (arith, nat_tests) in
    (λ t. nil_from_length c.args.self.now.frames (test.0 t), λ e. test.1 (ap length e))
