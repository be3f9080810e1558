use Rattle.std.proofs.lemmas.Result.{err_from_is_err_and}
use Rattle.flux_syntax.specs.At.{at}
use Rattle.flux_syntax.specs.Steps.{path_and_other}
use Rattle.flux_syntax.proofs.Leads.{here, took, given, gives, part_stops, piece_stops}
use Rattle.flux_syntax.proofs.reader.Reader.path_and_other.Goals as goal

pub returns-in_err-path-clause-parses : goal.returns-in_err-path-clause-parses
returns-in_err-path-clause-parses c =
    part_stops (at c.path.new.self) c.from_residual.result c.in_err-path.field-0.0 (here (path_and_other c.args.depth) (at c.args.self.now)) (err_from_is_err_and _ c.from_residual.ensures.1) c.in_err-path.ensures.parses

pub returns-in_err-take_word-clause-parses : goal.returns-in_err-take_word-clause-parses
returns-in_err-take_word-clause-parses c =
    piece_stops (at c.take_word.new.self) c.from_residual-in_err-take_word.result c.in_err-take_word.field-0.0 (given (here (path_and_other c.args.depth) (at c.args.self.now)) c.in_ok-path.ensures.parses) (err_from_is_err_and _ c.from_residual-in_err-take_word.ensures.1) c.in_err-take_word.ensures.took

pub returns-in_err-other-clause-parses : goal.returns-in_err-other-clause-parses
returns-in_err-other-clause-parses c =
    part_stops (at c.query.new.self) c.from_residual-in_err-other.result c.in_err-other.field-0.0 (took (given (here (path_and_other c.args.depth) (at c.args.self.now)) c.in_ok-path.ensures.parses) c.in_ok-take_word.ensures.took) (err_from_is_err_and _ c.from_residual-in_err-other.ensures.1) c.in_err-other.ensures.parses

pub returns-clause-parses : goal.returns-clause-parses
returns-clause-parses c =
    gives (given (took (given (here (path_and_other c.args.depth) (at c.args.self.now)) c.in_ok-path.ensures.parses) c.in_ok-take_word.ensures.took) c.in_ok-other.ensures.parses)
