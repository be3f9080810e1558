use Rattle.std.proofs.Common.{rules}
use Rattle.flux_querytype.proofs.Shown.{text_is_shown}
use Rattle.flux_querytype.proofs.tests.verdict.Goals as goal

pub returns : goal.returns
returns c = λ defs other.
    text_is_shown defs other _ _ _ c.in_ok-shown.ensures.0 (c.if-not-is_atom.ensures (search rules)) (c.if-not-takes_no_text.ensures defs c.in_ok-shown.ensures.0 (search rules)) c.in_ok-shown.ensures.1
