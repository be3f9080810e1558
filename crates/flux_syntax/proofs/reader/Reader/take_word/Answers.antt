use Rattle.flux_grammar.specs.declared.lexeme.Lexeme.TheVariants.{Reserved}
use Rattle.flux_syntax.specs.At.{at}
use Rattle.flux_syntax.proofs.Leads.{stops_here}
use Rattle.flux_syntax.proofs.reader.Reader.take_word.Goals as goal

pub returns-else-is_at_word-clause-took : goal.returns-else-is_at_word-clause-took
returns-else-is_at_word-clause-took c =
    stops_here (Reserved c.args.keyword) (at c.args.self.now) c.is_at_word.ensures.here c.if-is_at_word.false
