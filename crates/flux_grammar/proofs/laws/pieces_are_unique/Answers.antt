use Rattle.flux_grammar.proofs.OnePiece.{one_list}
use Rattle.flux_grammar.proofs.laws.pieces_are_unique.Goals as goal

pub returns : goal.returns
returns c = one_list
