use Rattle.std.proofs.Common.{refl}
use Rattle.std.proofs.lemmas.Result.{err_from_is_err_and}
use Rattle.flux_grammar.specs.declared.lexeme.Keyword.TheVariants as key
use Rattle.flux_grammar.specs.declared.lexeme.Lexeme.TheVariants.{Reserved}
use Rattle.flux_grammar.specs.Grammar.{simple}
use Rattle.flux_grammar.specs.Machine.{call}
use Rattle.flux_syntax.specs.At.{at}
use Rattle.flux_syntax.proofs.Leads.{here, into_at, took, given, gives, part_stops, piece_stops}
use Rattle.flux_syntax.proofs.reader.Reader.call.Goals as goal

pub returns-in_err-name-clause-parses : goal.returns-in_err-name-clause-parses
returns-in_err-name-clause-parses c =
    part_stops (at c.label.new.self) c.from_residual.result c.in_err-name.field-0.0 (took (into_at (here (call (simple c.args.depth)) (at c.args.self.now)) tt c.requires.open (λ k. refl)) (c.advance-word.ensures.took (Reserved key.Call) c.requires.open)) (err_from_is_err_and _ c.from_residual.ensures.1) c.in_err-name.ensures.parses

pub returns-in_err-take-clause-parses : goal.returns-in_err-take-clause-parses
returns-in_err-take-clause-parses c =
    piece_stops (at c.take.new.self) c.from_residual-in_err-take.result c.in_err-take.field-0.0 (given (took (into_at (here (call (simple c.args.depth)) (at c.args.self.now)) tt c.requires.open (λ k. refl)) (c.advance-word.ensures.took (Reserved key.Call) c.requires.open)) c.in_ok-name.ensures.parses) (err_from_is_err_and _ c.from_residual-in_err-take.ensures.1) c.in_err-take.ensures.took

pub returns-in_err-arguments-clause-parses : goal.returns-in_err-arguments-clause-parses
returns-in_err-arguments-clause-parses c =
    part_stops (at c.arguments.new.self) c.from_residual-in_err-arguments.result c.in_err-arguments.field-0.0 (took (given (took (into_at (here (call (simple c.args.depth)) (at c.args.self.now)) tt c.requires.open (λ k. refl)) (c.advance-word.ensures.took (Reserved key.Call) c.requires.open)) c.in_ok-name.ensures.parses) c.in_ok-take.ensures.took) (err_from_is_err_and _ c.from_residual-in_err-arguments.ensures.1) c.in_err-arguments.ensures.parses

pub returns-in_err-close-clause-parses : goal.returns-in_err-close-clause-parses
returns-in_err-close-clause-parses c =
    piece_stops (at c.take-2.new.self) c.from_residual-in_err-close.result c.in_err-close.field-0.0 (given (took (given (took (into_at (here (call (simple c.args.depth)) (at c.args.self.now)) tt c.requires.open (λ k. refl)) (c.advance-word.ensures.took (Reserved key.Call) c.requires.open)) c.in_ok-name.ensures.parses) c.in_ok-take.ensures.took) c.in_ok-arguments.ensures.parses) (err_from_is_err_and _ c.from_residual-in_err-close.ensures.1) c.in_err-close.ensures.took

pub returns-clause-parses : goal.returns-clause-parses
returns-clause-parses c =
    gives (took (given (took (given (took (into_at (here (call (simple c.args.depth)) (at c.args.self.now)) tt c.requires.open (λ k. refl)) (c.advance-word.ensures.took (Reserved key.Call) c.requires.open)) c.in_ok-name.ensures.parses) c.in_ok-take.ensures.took) c.in_ok-arguments.ensures.parses) c.in_ok-close.ensures.took)
