use Rattle.flux_grammar.specs.declared.lexeme.Lexeme.TheVariants.{Sign}
use Rattle.flux_syntax.specs.At.{at}
use Rattle.flux_syntax.proofs.Leads.{stops_here}
use Rattle.flux_syntax.proofs.reader.Reader.take.Goals as goal

pub returns-else-is_at-clause-took : goal.returns-else-is_at-clause-took
returns-else-is_at-clause-took c =
    stops_here (Sign c.args.sign) (at c.args.self.now) c.is_at.ensures.here c.if-is_at.false
