use Rattle.std.proofs.Common.{ap, ◌∙◌, inl}
use Rattle.flux_plain.proofs.tests.put_before.Goals as goal

pub widen-requires : goal.widen-requires
widen-requires c =
    (c.args.editor.now.current.focus, c.args.editor.now.current.frames, inl (c.in_ok-put.ensures ∙ ap (λ s. s.frames) c.in_ok-to_left.ensures.ok))
