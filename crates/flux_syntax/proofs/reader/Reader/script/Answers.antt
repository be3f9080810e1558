use Rattle.std.proofs.Common.{refl}
use Rattle.std.proofs.lemmas.Result.{err_from_is_err_and}
use Rattle.flux_grammar.specs.Grammar.{script}
use Rattle.flux_grammar.specs.Machine.{call}
use Rattle.flux_syntax.specs.At.{at}
use Rattle.flux_syntax.proofs.Leads.{here, into, took, given, gives_as, part_stops, piece_stops}
use Rattle.flux_syntax.proofs.StatementChoices.{with_input}
use Rattle.flux_syntax.proofs.reader.Reader.script.Goals as goal

pub returns-in_err-types-clause-parses : goal.returns-in_err-types-clause-parses
returns-in_err-types-clause-parses c =
    part_stops (at c.type_definitions.new.self) c.from_residual.result c.in_err-types.field-0.0 (into (here (call script) (at c.args.self.now)) tt (λ k. refl)) (err_from_is_err_and _ c.from_residual.ensures.1) c.in_err-types.ensures.parses

pub returns-in_err-procs-clause-parses : goal.returns-in_err-procs-clause-parses
returns-in_err-procs-clause-parses c =
    part_stops (at c.procedures.new.self) c.from_residual-in_err-procs.result c.in_err-procs.field-0.0 (given (into (here (call script) (at c.args.self.now)) tt (λ k. refl)) c.in_ok-types.ensures.parses) (err_from_is_err_and _ c.from_residual-in_err-procs.ensures.1) c.in_err-procs.ensures.parses

pub returns-in_err-take_word-clause-parses : goal.returns-in_err-take_word-clause-parses
returns-in_err-take_word-clause-parses c =
    piece_stops (at c.take_word.new.self) c.from_residual-in_err-take_word.result c.in_err-take_word.field-0.0 (given (given (into (here (call script) (at c.args.self.now)) tt (λ k. refl)) c.in_ok-types.ensures.parses) c.in_ok-procs.ensures.parses) (err_from_is_err_and _ c.from_residual-in_err-take_word.ensures.1) c.in_err-take_word.ensures.took

pub returns-in_err-input-clause-parses : goal.returns-in_err-input-clause-parses
returns-in_err-input-clause-parses c =
    part_stops (at c.boxed_type.new.self) c.from_residual-in_err-input.result c.in_err-input.field-0.0 (took (given (given (into (here (call script) (at c.args.self.now)) tt (λ k. refl)) c.in_ok-types.ensures.parses) c.in_ok-procs.ensures.parses) c.in_ok-take_word.ensures.took) (err_from_is_err_and _ c.from_residual-in_err-input.ensures.1) c.in_err-input.ensures.parses

pub returns-in_err-output-clause-parses : goal.returns-in_err-output-clause-parses
returns-in_err-output-clause-parses c =
    part_stops (at c.output.new.self) c.from_residual-in_err-output.result c.in_err-output.field-0.0 (given (took (given (given (into (here (call script) (at c.args.self.now)) tt (λ k. refl)) c.in_ok-types.ensures.parses) c.in_ok-procs.ensures.parses) c.in_ok-take_word.ensures.took) c.in_ok-input.ensures.parses) (err_from_is_err_and _ c.from_residual-in_err-output.ensures.1) c.in_err-output.ensures.parses

pub returns-in_err-take_word-2-clause-parses : goal.returns-in_err-take_word-2-clause-parses
returns-in_err-take_word-2-clause-parses c =
    piece_stops (at c.take_word-2.new.self) c.from_residual-in_err-take_word-2.result c.in_err-take_word-2.field-0.0 (given (given (took (given (given (into (here (call script) (at c.args.self.now)) tt (λ k. refl)) c.in_ok-types.ensures.parses) c.in_ok-procs.ensures.parses) c.in_ok-take_word.ensures.took) c.in_ok-input.ensures.parses) c.in_ok-output.ensures.parses) (err_from_is_err_and _ c.from_residual-in_err-take_word-2.ensures.1) c.in_err-take_word-2.ensures.took

pub returns-in_err-body-clause-parses : goal.returns-in_err-body-clause-parses
returns-in_err-body-clause-parses c =
    part_stops (at c.statements.new.self) c.from_residual-in_err-body.result c.in_err-body.field-0.0 (took (given (given (took (given (given (into (here (call script) (at c.args.self.now)) tt (λ k. refl)) c.in_ok-types.ensures.parses) c.in_ok-procs.ensures.parses) c.in_ok-take_word.ensures.took) c.in_ok-input.ensures.parses) c.in_ok-output.ensures.parses) c.in_ok-take_word-2.ensures.took) (err_from_is_err_and _ c.from_residual-in_err-body.ensures.1) c.in_err-body.ensures.parses

pub returns-clause-parses : goal.returns-clause-parses
returns-clause-parses c =
    gives_as (with_input c.into_inner.ensures) (given (took (given (given (took (given (given (into (here (call script) (at c.args.self.now)) tt (λ k. refl)) c.in_ok-types.ensures.parses) c.in_ok-procs.ensures.parses) c.in_ok-take_word.ensures.took) c.in_ok-input.ensures.parses) c.in_ok-output.ensures.parses) c.in_ok-take_word-2.ensures.took) c.in_ok-body.ensures.parses)
