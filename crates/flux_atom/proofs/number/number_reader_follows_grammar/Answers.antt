use Rattle.flux_atom.proofs.NumberLaws.{follows_grammar}
use Rattle.flux_atom.proofs.number.number_reader_follows_grammar.Goals as goal

pub returns : goal.returns
returns c = follows_grammar
