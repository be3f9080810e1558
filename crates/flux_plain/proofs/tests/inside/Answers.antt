use Rattle.std.proofs.Common.{ap, ◌∙◌}
use Rattle.flux_plain.proofs.tests.inside.Goals as goal

pub up-requires : goal.up-requires
up-requires c =
    let down = c.in_ok-down.ensures.ok in
    (tt, down.1, c.args.editor.now.current.frames, c.in_ok-put.ensures ∙ c.in_ok-clear.ensures.frames ∙ ap (λ s. s.frames) down.4)
