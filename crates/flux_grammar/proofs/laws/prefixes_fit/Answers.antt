use Rattle.flux_grammar.specs.Grammar.{type, expr, script}
use Rattle.flux_grammar.proofs.Final.{prefixes_fit}
use Rattle.flux_grammar.proofs.laws.prefixes_fit.Goals as goal

pub returns-clause-scripts : goal.returns-clause-scripts
returns-clause-scripts c = prefixes_fit script

pub returns-clause-types : goal.returns-clause-types
returns-clause-types c = prefixes_fit (type 0)

pub returns-clause-queries : goal.returns-clause-queries
returns-clause-queries c = prefixes_fit (expr 0)
