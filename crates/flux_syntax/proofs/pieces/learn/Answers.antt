use Rattle.flux_syntax.proofs.OneToken.{name_utf8}
use Rattle.flux_syntax.proofs.pieces.learn.Goals as goal

pub unreachable-requires : goal.unreachable-requires
unreachable-requires c = c.in_default.ensures.cases.0 (name_utf8 c.args.text.now c.requires.name)
