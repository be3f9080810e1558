use Rattle.std.proofs.Common.{refl}
use Rattle.std.proofs.lemmas.Result.{err_from_is_err_and}
use Rattle.flux_grammar.specs.declared.lexeme.Keyword.TheVariants as key
use Rattle.flux_grammar.specs.declared.lexeme.Lexeme.TheVariants.{Reserved}
use Rattle.flux_grammar.specs.Grammar.{simple}
use Rattle.flux_grammar.specs.Machine.{call}
use Rattle.flux_syntax.specs.At.{at}
use Rattle.flux_syntax.proofs.Leads.{here, into_at, took, given, gives, part_stops, piece_stops}
use Rattle.flux_syntax.proofs.reader.Reader.rename.Goals as goal

pub returns-in_err-path-clause-parses : goal.returns-in_err-path-clause-parses
returns-in_err-path-clause-parses c =
    part_stops (at c.path.new.self) c.from_residual.result c.in_err-path.field-0.0 (took (into_at (here (call (simple c.args.depth)) (at c.args.self.now)) tt c.requires.open (λ k. refl)) (c.advance-word.ensures.took (Reserved key.Rename) c.requires.open)) (err_from_is_err_and _ c.from_residual.ensures.1) c.in_err-path.ensures.parses

pub returns-in_err-take_word-clause-parses : goal.returns-in_err-take_word-clause-parses
returns-in_err-take_word-clause-parses c =
    piece_stops (at c.take_word.new.self) c.from_residual-in_err-take_word.result c.in_err-take_word.field-0.0 (given (took (into_at (here (call (simple c.args.depth)) (at c.args.self.now)) tt c.requires.open (λ k. refl)) (c.advance-word.ensures.took (Reserved key.Rename) c.requires.open)) c.in_ok-path.ensures.parses) (err_from_is_err_and _ c.from_residual-in_err-take_word.ensures.1) c.in_err-take_word.ensures.took

pub returns-in_err-name-clause-parses : goal.returns-in_err-name-clause-parses
returns-in_err-name-clause-parses c =
    part_stops (at c.label.new.self) c.from_residual-in_err-name.result c.in_err-name.field-0.0 (took (given (took (into_at (here (call (simple c.args.depth)) (at c.args.self.now)) tt c.requires.open (λ k. refl)) (c.advance-word.ensures.took (Reserved key.Rename) c.requires.open)) c.in_ok-path.ensures.parses) c.in_ok-take_word.ensures.took) (err_from_is_err_and _ c.from_residual-in_err-name.ensures.1) c.in_err-name.ensures.parses

pub returns-clause-parses : goal.returns-clause-parses
returns-clause-parses c =
    gives (given (took (given (took (into_at (here (call (simple c.args.depth)) (at c.args.self.now)) tt c.requires.open (λ k. refl)) (c.advance-word.ensures.took (Reserved key.Rename) c.requires.open)) c.in_ok-path.ensures.parses) c.in_ok-take_word.ensures.took) c.in_ok-name.ensures.parses)
