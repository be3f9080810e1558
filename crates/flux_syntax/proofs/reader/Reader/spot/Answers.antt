use Rattle.std.proofs.Common.{refl}
use Rattle.std.proofs.lemmas.Result.{err_from_is_err_and}
use Rattle.flux_grammar.specs.declared.lexeme.Lexeme.TheVariants.{Sign}
use Rattle.flux_grammar.specs.declared.lexeme.Sign.TheVariants as sign
use Rattle.flux_grammar.specs.Grammar.{spot}
use Rattle.flux_grammar.specs.States.{head}
use Rattle.flux_grammar.specs.Machine.{call}
use Rattle.flux_syntax.specs.At.{at}
use Rattle.flux_syntax.proofs.Chosen.{is_here, not_here}
use Rattle.flux_syntax.proofs.Leads.{here, into, into_at, took, given, gives, part_stops}
use Rattle.flux_syntax.proofs.StatementChoices.{tested_spot}
use Rattle.flux_syntax.proofs.reader.Reader.spot.Goals as goal

pub returns-then-is_at-clause-parses : goal.returns-then-is_at-clause-parses
returns-then-is_at-clause-parses c =
    gives (took (into_at (here (call spot) (at c.args.self.now)) tt (is_here c.is_at.ensures.here c.if-is_at.true) (λ k. refl)) (c.advance-from.ensures.took (Sign sign.Dot) (is_here c.is_at.ensures.here c.if-is_at.true)))

pub returns-in_err-test-clause-parses : goal.returns-in_err-test-clause-parses
returns-in_err-test-clause-parses c =
    part_stops (at c.test.new.self) c.from_residual.result c.in_err-test.field-0.0 (into (here (call spot) (at c.args.self.now)) tt (tested_spot (head (at c.args.self.now)) (not_here c.is_at.ensures.here c.if-is_at.false))) (err_from_is_err_and _ c.from_residual.ensures.1) c.in_err-test.ensures.parses

pub returns-clause-parses : goal.returns-clause-parses
returns-clause-parses c =
    gives (given (into (here (call spot) (at c.args.self.now)) tt (tested_spot (head (at c.args.self.now)) (not_here c.is_at.ensures.here c.if-is_at.false))) c.in_ok-test.ensures.parses)
