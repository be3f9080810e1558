use Rattle.std.proofs.lemmas.Result.{err_from_is_err_and}
use Rattle.flux_grammar.specs.Grammar.{step}
use Rattle.flux_grammar.specs.States.{head}
use Rattle.flux_grammar.specs.Machine.{call}
use Rattle.flux_syntax.specs.At.{at}
use Rattle.flux_syntax.proofs.Leads.{here, into, given, past_mark, gives, part_stops}
use Rattle.flux_syntax.proofs.StatementChoices.{free_step}
use Rattle.flux_syntax.proofs.reader.Reader.step.Goals as goal

pub returns-in_err-test-in-None-clause-parses : goal.returns-in_err-test-in-None-clause-parses
returns-in_err-test-in-None-clause-parses c =
    part_stops (at c.spot.new.self) c.from_residual.result c.in_err-test-in-None.field-0.0 (into (here (call (step c.args.depth)) (at c.args.self.now)) tt (free_step c.args.depth (head (at c.args.self.now)) c.in-None.ensures.name)) (err_from_is_err_and _ c.from_residual.ensures.1) c.in_err-test-in-None.ensures.parses

pub returns-in_err-filter-in-None-clause-parses : goal.returns-in_err-filter-in-None-clause-parses
returns-in_err-filter-in-None-clause-parses c =
    part_stops (at c.filtered.new.self) c.from_residual-in_err-filter-in-None.result c.in_err-filter-in-None.field-0.0 (given (into (here (call (step c.args.depth)) (at c.args.self.now)) tt (free_step c.args.depth (head (at c.args.self.now)) c.in-None.ensures.name)) c.in_ok-test-in-None.ensures.parses) (err_from_is_err_and _ c.from_residual-in_err-filter-in-None.ensures.1) c.in_err-filter-in-None.ensures.parses

pub returns-in_ok-filter-in-None-clause-parses : goal.returns-in_ok-filter-in-None-clause-parses
returns-in_ok-filter-in-None-clause-parses c =
    gives (past_mark (given (given (into (here (call (step c.args.depth)) (at c.args.self.now)) tt (free_step c.args.depth (head (at c.args.self.now)) c.in-None.ensures.name)) c.in_ok-test-in-None.ensures.parses) c.in_ok-filter-in-None.ensures.parses))
