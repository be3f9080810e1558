use Rattle.flux_syntax.proofs.OneToken.{quoted_lexeme}
use Rattle.flux_syntax.proofs.pieces.quoted.Goals as goal

pub returns-clause-lexeme : goal.returns-clause-lexeme
returns-clause-lexeme c =
    quoted_lexeme c.learn.new.names c.args.text.now c.in_ok-name.name c.requires.quoted c.in_ok-name.ensures.place
