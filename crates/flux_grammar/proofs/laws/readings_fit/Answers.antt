use Rattle.flux_grammar.specs.Grammar.{type, expr, script}
use Rattle.flux_grammar.proofs.Final.{readings_fit}
use Rattle.flux_grammar.proofs.laws.readings_fit.Goals as goal

pub returns-clause-scripts : goal.returns-clause-scripts
returns-clause-scripts c = readings_fit script

pub returns-clause-types : goal.returns-clause-types
returns-clause-types c = readings_fit (type 0)

pub returns-clause-queries : goal.returns-clause-queries
returns-clause-queries c = readings_fit (expr 0)
