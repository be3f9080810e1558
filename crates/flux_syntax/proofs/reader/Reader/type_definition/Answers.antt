use Rattle.std.proofs.Common.{refl}
use Rattle.std.proofs.lemmas.Result.{err_from_is_err_and}
use Rattle.flux_grammar.specs.declared.lexeme.Keyword.TheVariants as key
use Rattle.flux_grammar.specs.declared.lexeme.Lexeme.TheVariants.{Reserved}
use Rattle.flux_grammar.specs.Grammar.{typedef}
use Rattle.flux_grammar.specs.Machine.{call}
use Rattle.flux_syntax.specs.At.{at}
use Rattle.flux_syntax.proofs.Leads.{here, into_at, took, given, gives, part_stops, piece_stops}
use Rattle.flux_syntax.proofs.reader.Reader.type_definition.Goals as goal

pub returns-in_err-name-clause-parses : goal.returns-in_err-name-clause-parses
returns-in_err-name-clause-parses c =
    part_stops (at c.type_name.new.self) c.from_residual.result c.in_err-name.field-0.0 (took (into_at (here (call typedef) (at c.args.self.now)) tt c.requires.open (λ k. refl)) (c.advance.ensures.took (Reserved key.Type) c.requires.open)) (err_from_is_err_and _ c.from_residual.ensures.1) c.in_err-name.ensures.parses

pub returns-in_err-take-clause-parses : goal.returns-in_err-take-clause-parses
returns-in_err-take-clause-parses c =
    piece_stops (at c.take.new.self) c.from_residual-in_err-take.result c.in_err-take.field-0.0 (given (took (into_at (here (call typedef) (at c.args.self.now)) tt c.requires.open (λ k. refl)) (c.advance.ensures.took (Reserved key.Type) c.requires.open)) c.in_ok-name.ensures.parses) (err_from_is_err_and _ c.from_residual-in_err-take.ensures.1) c.in_err-take.ensures.took

pub returns-in_err-body-clause-parses : goal.returns-in_err-body-clause-parses
returns-in_err-body-clause-parses c =
    part_stops (at c.type_text.new.self) c.from_residual-in_err-body.result c.in_err-body.field-0.0 (took (given (took (into_at (here (call typedef) (at c.args.self.now)) tt c.requires.open (λ k. refl)) (c.advance.ensures.took (Reserved key.Type) c.requires.open)) c.in_ok-name.ensures.parses) c.in_ok-take.ensures.took) (err_from_is_err_and _ c.from_residual-in_err-body.ensures.1) c.in_err-body.ensures.parses

pub returns-in_err-take-2-clause-parses : goal.returns-in_err-take-2-clause-parses
returns-in_err-take-2-clause-parses c =
    piece_stops (at c.take-2.new.self) c.from_residual-in_err-take-2.result c.in_err-take-2.field-0.0 (given (took (given (took (into_at (here (call typedef) (at c.args.self.now)) tt c.requires.open (λ k. refl)) (c.advance.ensures.took (Reserved key.Type) c.requires.open)) c.in_ok-name.ensures.parses) c.in_ok-take.ensures.took) c.in_ok-body.ensures.parses) (err_from_is_err_and _ c.from_residual-in_err-take-2.ensures.1) c.in_err-take-2.ensures.took

pub returns-clause-parses : goal.returns-clause-parses
returns-clause-parses c =
    gives (took (given (took (given (took (into_at (here (call typedef) (at c.args.self.now)) tt c.requires.open (λ k. refl)) (c.advance.ensures.took (Reserved key.Type) c.requires.open)) c.in_ok-name.ensures.parses) c.in_ok-take.ensures.took) c.in_ok-body.ensures.parses) c.in_ok-take-2.ensures.took)
