use Rattle.std.proofs.Common.{refl}
use Rattle.std.proofs.lemmas.Result.{err_from_is_err_and}
use Rattle.flux_grammar.specs.declared.lexeme.Keyword.TheVariants as key
use Rattle.flux_grammar.specs.declared.lexeme.Lexeme.TheVariants.{Reserved}
use Rattle.flux_grammar.specs.Grammar.{procdef}
use Rattle.flux_grammar.specs.Machine.{call}
use Rattle.flux_syntax.specs.At.{at}
use Rattle.flux_syntax.proofs.Leads.{here, into_at, took, given, gives_as, part_stops, piece_stops}
use Rattle.flux_syntax.proofs.StatementChoices.{with_types}
use Rattle.flux_syntax.proofs.reader.Reader.procedure.Goals as goal

pub returns-in_err-name-clause-parses : goal.returns-in_err-name-clause-parses
returns-in_err-name-clause-parses c =
    part_stops (at c.label.new.self) c.from_residual.result c.in_err-name.field-0.0 (took (into_at (here (call procdef) (at c.args.self.now)) tt c.requires.open (λ k. refl)) (c.advance.ensures.took (Reserved key.Procedure) c.requires.open)) (err_from_is_err_and _ c.from_residual.ensures.1) c.in_err-name.ensures.parses

pub returns-in_err-take-clause-parses : goal.returns-in_err-take-clause-parses
returns-in_err-take-clause-parses c =
    piece_stops (at c.take.new.self) c.from_residual-in_err-take.result c.in_err-take.field-0.0 (given (took (into_at (here (call procdef) (at c.args.self.now)) tt c.requires.open (λ k. refl)) (c.advance.ensures.took (Reserved key.Procedure) c.requires.open)) c.in_ok-name.ensures.parses) (err_from_is_err_and _ c.from_residual-in_err-take.ensures.1) c.in_err-take.ensures.took

pub returns-in_err-params-clause-parses : goal.returns-in_err-params-clause-parses
returns-in_err-params-clause-parses c =
    part_stops (at c.parameters.new.self) c.from_residual-in_err-params.result c.in_err-params.field-0.0 (took (given (took (into_at (here (call procdef) (at c.args.self.now)) tt c.requires.open (λ k. refl)) (c.advance.ensures.took (Reserved key.Procedure) c.requires.open)) c.in_ok-name.ensures.parses) c.in_ok-take.ensures.took) (err_from_is_err_and _ c.from_residual-in_err-params.ensures.1) c.in_err-params.ensures.parses

pub returns-in_err-take-2-clause-parses : goal.returns-in_err-take-2-clause-parses
returns-in_err-take-2-clause-parses c =
    piece_stops (at c.take-2.new.self) c.from_residual-in_err-take-2.result c.in_err-take-2.field-0.0 (given (took (given (took (into_at (here (call procdef) (at c.args.self.now)) tt c.requires.open (λ k. refl)) (c.advance.ensures.took (Reserved key.Procedure) c.requires.open)) c.in_ok-name.ensures.parses) c.in_ok-take.ensures.took) c.in_ok-params.ensures.parses) (err_from_is_err_and _ c.from_residual-in_err-take-2.ensures.1) c.in_err-take-2.ensures.took

pub returns-in_err-take-3-clause-parses : goal.returns-in_err-take-3-clause-parses
returns-in_err-take-3-clause-parses c =
    piece_stops (at c.take-3.new.self) c.from_residual-in_err-take-3.result c.in_err-take-3.field-0.0 (took (given (took (given (took (into_at (here (call procdef) (at c.args.self.now)) tt c.requires.open (λ k. refl)) (c.advance.ensures.took (Reserved key.Procedure) c.requires.open)) c.in_ok-name.ensures.parses) c.in_ok-take.ensures.took) c.in_ok-params.ensures.parses) c.in_ok-take-2.ensures.took) (err_from_is_err_and _ c.from_residual-in_err-take-3.ensures.1) c.in_err-take-3.ensures.took

pub returns-in_err-focus-clause-parses : goal.returns-in_err-focus-clause-parses
returns-in_err-focus-clause-parses c =
    part_stops (at c.boxed_type.new.self) c.from_residual-in_err-focus.result c.in_err-focus.field-0.0 (took (took (given (took (given (took (into_at (here (call procdef) (at c.args.self.now)) tt c.requires.open (λ k. refl)) (c.advance.ensures.took (Reserved key.Procedure) c.requires.open)) c.in_ok-name.ensures.parses) c.in_ok-take.ensures.took) c.in_ok-params.ensures.parses) c.in_ok-take-2.ensures.took) c.in_ok-take-3.ensures.took) (err_from_is_err_and _ c.from_residual-in_err-focus.ensures.1) c.in_err-focus.ensures.parses

pub returns-in_err-take-4-clause-parses : goal.returns-in_err-take-4-clause-parses
returns-in_err-take-4-clause-parses c =
    piece_stops (at c.take-4.new.self) c.from_residual-in_err-take-4.result c.in_err-take-4.field-0.0 (given (took (took (given (took (given (took (into_at (here (call procdef) (at c.args.self.now)) tt c.requires.open (λ k. refl)) (c.advance.ensures.took (Reserved key.Procedure) c.requires.open)) c.in_ok-name.ensures.parses) c.in_ok-take.ensures.took) c.in_ok-params.ensures.parses) c.in_ok-take-2.ensures.took) c.in_ok-take-3.ensures.took) c.in_ok-focus.ensures.parses) (err_from_is_err_and _ c.from_residual-in_err-take-4.ensures.1) c.in_err-take-4.ensures.took

pub returns-in_err-result-clause-parses : goal.returns-in_err-result-clause-parses
returns-in_err-result-clause-parses c =
    part_stops (at c.boxed_type-2.new.self) c.from_residual-in_err-result.result c.in_err-result.field-0.0 (took (given (took (took (given (took (given (took (into_at (here (call procdef) (at c.args.self.now)) tt c.requires.open (λ k. refl)) (c.advance.ensures.took (Reserved key.Procedure) c.requires.open)) c.in_ok-name.ensures.parses) c.in_ok-take.ensures.took) c.in_ok-params.ensures.parses) c.in_ok-take-2.ensures.took) c.in_ok-take-3.ensures.took) c.in_ok-focus.ensures.parses) c.in_ok-take-4.ensures.took) (err_from_is_err_and _ c.from_residual-in_err-result.ensures.1) c.in_err-result.ensures.parses

pub returns-in_err-take-5-clause-parses : goal.returns-in_err-take-5-clause-parses
returns-in_err-take-5-clause-parses c =
    piece_stops (at c.take-5.new.self) c.from_residual-in_err-take-5.result c.in_err-take-5.field-0.0 (given (took (given (took (took (given (took (given (took (into_at (here (call procdef) (at c.args.self.now)) tt c.requires.open (λ k. refl)) (c.advance.ensures.took (Reserved key.Procedure) c.requires.open)) c.in_ok-name.ensures.parses) c.in_ok-take.ensures.took) c.in_ok-params.ensures.parses) c.in_ok-take-2.ensures.took) c.in_ok-take-3.ensures.took) c.in_ok-focus.ensures.parses) c.in_ok-take-4.ensures.took) c.in_ok-result.ensures.parses) (err_from_is_err_and _ c.from_residual-in_err-take-5.ensures.1) c.in_err-take-5.ensures.took

pub returns-in_err-body-clause-parses : goal.returns-in_err-body-clause-parses
returns-in_err-body-clause-parses c =
    part_stops (at c.statements.new.self) c.from_residual-in_err-body.result c.in_err-body.field-0.0 (took (given (took (given (took (took (given (took (given (took (into_at (here (call procdef) (at c.args.self.now)) tt c.requires.open (λ k. refl)) (c.advance.ensures.took (Reserved key.Procedure) c.requires.open)) c.in_ok-name.ensures.parses) c.in_ok-take.ensures.took) c.in_ok-params.ensures.parses) c.in_ok-take-2.ensures.took) c.in_ok-take-3.ensures.took) c.in_ok-focus.ensures.parses) c.in_ok-take-4.ensures.took) c.in_ok-result.ensures.parses) c.in_ok-take-5.ensures.took) (err_from_is_err_and _ c.from_residual-in_err-body.ensures.1) c.in_err-body.ensures.parses

pub returns-in_err-take-6-clause-parses : goal.returns-in_err-take-6-clause-parses
returns-in_err-take-6-clause-parses c =
    piece_stops (at c.take-6.new.self) c.from_residual-in_err-take-6.result c.in_err-take-6.field-0.0 (given (took (given (took (given (took (took (given (took (given (took (into_at (here (call procdef) (at c.args.self.now)) tt c.requires.open (λ k. refl)) (c.advance.ensures.took (Reserved key.Procedure) c.requires.open)) c.in_ok-name.ensures.parses) c.in_ok-take.ensures.took) c.in_ok-params.ensures.parses) c.in_ok-take-2.ensures.took) c.in_ok-take-3.ensures.took) c.in_ok-focus.ensures.parses) c.in_ok-take-4.ensures.took) c.in_ok-result.ensures.parses) c.in_ok-take-5.ensures.took) c.in_ok-body.ensures.parses) (err_from_is_err_and _ c.from_residual-in_err-take-6.ensures.1) c.in_err-take-6.ensures.took

pub returns-clause-parses : goal.returns-clause-parses
returns-clause-parses c =
    gives_as (with_types c.into_inner.ensures c.into_inner-2.ensures) (took (given (took (given (took (given (took (took (given (took (given (took (into_at (here (call procdef) (at c.args.self.now)) tt c.requires.open (λ k. refl)) (c.advance.ensures.took (Reserved key.Procedure) c.requires.open)) c.in_ok-name.ensures.parses) c.in_ok-take.ensures.took) c.in_ok-params.ensures.parses) c.in_ok-take-2.ensures.took) c.in_ok-take-3.ensures.took) c.in_ok-focus.ensures.parses) c.in_ok-take-4.ensures.took) c.in_ok-result.ensures.parses) c.in_ok-take-5.ensures.took) c.in_ok-body.ensures.parses) c.in_ok-take-6.ensures.took)
