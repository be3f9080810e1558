use Rattle.std.proofs.Common.{refl}
use Rattle.std.proofs.lemmas.Result.{err_from_is_err_and}
use Rattle.flux_grammar.specs.declared.lexeme.Lexeme.TheVariants.{Sign}
use Rattle.flux_grammar.specs.declared.lexeme.Sign.TheVariants as sign
use Rattle.flux_grammar.specs.Grammar.{filtered}
use Rattle.flux_grammar.specs.States.{head}
use Rattle.flux_grammar.specs.Machine.{call}
use Rattle.flux_syntax.specs.At.{at}
use Rattle.flux_syntax.proofs.Chosen.{is_here, not_here}
use Rattle.flux_syntax.proofs.Leads.{here, into, into_at, took, given, gives, part_stops, piece_stops}
use Rattle.flux_syntax.proofs.StatementChoices.{no_filter}
use Rattle.flux_syntax.proofs.reader.Reader.filtered.Goals as goal

pub returns-then-not-is_at-clause-parses : goal.returns-then-not-is_at-clause-parses
returns-then-not-is_at-clause-parses c =
    gives (into (here (call (filtered c.args.depth)) (at c.args.self.now)) tt (no_filter c.args.depth (head (at c.args.self.now)) (not_here c.is_at.ensures.here c.if-not-is_at.true)))

pub returns-in_err-query-clause-parses : goal.returns-in_err-query-clause-parses
returns-in_err-query-clause-parses c =
    part_stops (at c.query.new.self) c.from_residual.result c.in_err-query.field-0.0 (took (into_at (here (call (filtered c.args.depth)) (at c.args.self.now)) tt (is_here c.is_at.ensures.here c.if-not-is_at.false) (λ k. refl)) (c.advance.ensures.took (Sign sign.OpenSquare) (is_here c.is_at.ensures.here c.if-not-is_at.false))) (err_from_is_err_and _ c.from_residual.ensures.1) c.in_err-query.ensures.parses

pub returns-in_err-take-clause-parses : goal.returns-in_err-take-clause-parses
returns-in_err-take-clause-parses c =
    piece_stops (at c.take.new.self) c.from_residual-in_err-take.result c.in_err-take.field-0.0 (given (took (into_at (here (call (filtered c.args.depth)) (at c.args.self.now)) tt (is_here c.is_at.ensures.here c.if-not-is_at.false) (λ k. refl)) (c.advance.ensures.took (Sign sign.OpenSquare) (is_here c.is_at.ensures.here c.if-not-is_at.false))) c.in_ok-query.ensures.parses) (err_from_is_err_and _ c.from_residual-in_err-take.ensures.1) c.in_err-take.ensures.took

pub returns-clause-parses : goal.returns-clause-parses
returns-clause-parses c =
    gives (took (given (took (into_at (here (call (filtered c.args.depth)) (at c.args.self.now)) tt (is_here c.is_at.ensures.here c.if-not-is_at.false) (λ k. refl)) (c.advance.ensures.took (Sign sign.OpenSquare) (is_here c.is_at.ensures.here c.if-not-is_at.false))) c.in_ok-query.ensures.parses) c.in_ok-take.ensures.took)
