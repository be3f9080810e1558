use Rattle.std.proofs.Common.{refl}
use Rattle.std.proofs.lemmas.Result.{err_from_is_err_and}
use Rattle.flux_grammar.specs.declared.lexeme.Lexeme.TheVariants.{Var}
use Rattle.flux_grammar.specs.Grammar.{step}
use Rattle.flux_grammar.specs.Machine.{call}
use Rattle.flux_syntax.specs.At.{at}
use Rattle.flux_syntax.proofs.Leads.{here, into_at, took, given, past_mark, gives, part_stops, piece_stops}
use Rattle.flux_syntax.proofs.reader.Reader.bound_step.Goals as goal

pub returns-in_err-take_word-clause-parses : goal.returns-in_err-take_word-clause-parses
returns-in_err-take_word-clause-parses c =
    piece_stops (at c.take_word.new.self) c.from_residual.result c.in_err-take_word.field-0.0 (took (into_at (here (call (step c.args.depth)) (at c.args.self.now)) tt c.requires.var (λ k. refl)) (c.advance-word.ensures.took (Var c.args.name) c.requires.var)) (err_from_is_err_and _ c.from_residual.ensures.1) c.in_err-take_word.ensures.took

pub returns-in_err-test-clause-parses : goal.returns-in_err-test-clause-parses
returns-in_err-test-clause-parses c =
    part_stops (at c.spot.new.self) c.from_residual-in_err-test.result c.in_err-test.field-0.0 (took (took (into_at (here (call (step c.args.depth)) (at c.args.self.now)) tt c.requires.var (λ k. refl)) (c.advance-word.ensures.took (Var c.args.name) c.requires.var)) c.in_ok-take_word.ensures.took) (err_from_is_err_and _ c.from_residual-in_err-test.ensures.1) c.in_err-test.ensures.parses

pub returns-in_err-filter-clause-parses : goal.returns-in_err-filter-clause-parses
returns-in_err-filter-clause-parses c =
    part_stops (at c.filtered.new.self) c.from_residual-in_err-filter.result c.in_err-filter.field-0.0 (given (took (took (into_at (here (call (step c.args.depth)) (at c.args.self.now)) tt c.requires.var (λ k. refl)) (c.advance-word.ensures.took (Var c.args.name) c.requires.var)) c.in_ok-take_word.ensures.took) c.in_ok-test.ensures.parses) (err_from_is_err_and _ c.from_residual-in_err-filter.ensures.1) c.in_err-filter.ensures.parses

pub returns-clause-parses : goal.returns-clause-parses
returns-clause-parses c =
    gives (past_mark (given (given (took (took (into_at (here (call (step c.args.depth)) (at c.args.self.now)) tt c.requires.var (λ k. refl)) (c.advance-word.ensures.took (Var c.args.name) c.requires.var)) c.in_ok-take_word.ensures.took) c.in_ok-test.ensures.parses) c.in_ok-filter.ensures.parses))
