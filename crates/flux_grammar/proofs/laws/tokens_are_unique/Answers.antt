use Rattle.flux_grammar.proofs.TokenReads.{tokens_unique}
use Rattle.flux_grammar.proofs.laws.tokens_are_unique.Goals as goal

pub returns : goal.returns
returns c = tokens_unique
