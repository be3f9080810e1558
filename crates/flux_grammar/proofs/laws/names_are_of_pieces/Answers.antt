use Rattle.flux_grammar.proofs.NamesOfPieces.{names_of_script, names_of_type, names_of_query}
use Rattle.flux_grammar.proofs.laws.names_are_of_pieces.Goals as goal

pub returns-clause-scripts : goal.returns-clause-scripts
returns-clause-scripts c = names_of_script

pub returns-clause-types : goal.returns-clause-types
returns-clause-types c = names_of_type

pub returns-clause-queries : goal.returns-clause-queries
returns-clause-queries c = names_of_query
