use Rattle.std.proofs.Common.{ap, ◌∙◌, inr}
use Rattle.flux_plain.proofs.tests.put_behind.Goals as goal

pub widen-requires : goal.widen-requires
widen-requires c =
    (c.args.editor.now.current.focus, c.args.editor.now.current.frames, inr (c.in_ok-put.ensures ∙ ap (λ s. s.frames) c.in_ok-to_right.ensures.ok))
