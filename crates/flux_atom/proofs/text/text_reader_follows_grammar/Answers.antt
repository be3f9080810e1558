use Rattle.flux_atom.proofs.StringLaws.{follows_grammar}
use Rattle.flux_atom.proofs.text.text_reader_follows_grammar.Goals as goal

pub returns : goal.returns
returns c = follows_grammar
