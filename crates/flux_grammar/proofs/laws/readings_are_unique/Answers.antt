use Rattle.flux_grammar.proofs.Final.{one_script, one_type, one_query}
use Rattle.flux_grammar.proofs.laws.readings_are_unique.Goals as goal

pub returns-clause-scripts : goal.returns-clause-scripts
returns-clause-scripts c = one_script

pub returns-clause-types : goal.returns-clause-types
returns-clause-types c = one_type

pub returns-clause-queries : goal.returns-clause-queries
returns-clause-queries c = one_query
