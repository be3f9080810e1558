use Rattle.flux_syntax.proofs.OneToken.{variable_lexeme}
use Rattle.flux_syntax.proofs.pieces.variable.Goals as goal

pub returns-clause-lexeme : goal.returns-clause-lexeme
returns-clause-lexeme c =
    variable_lexeme c.learn.new.names c.args.text.now c.in_ok-name.name c.requires.variable c.in_ok-name.ensures.place
