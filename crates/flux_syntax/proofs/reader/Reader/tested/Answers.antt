use Rattle.std.proofs.Common.{refl}
use Rattle.std.proofs.lemmas.Result.{err_from_is_err_and}
use Rattle.flux_grammar.specs.declared.lexeme.Lexeme.TheVariants.{Sign}
use Rattle.flux_grammar.specs.declared.lexeme.Sign.TheVariants as sign
use Rattle.flux_grammar.specs.Grammar.{tested}
use Rattle.flux_grammar.specs.States.{head}
use Rattle.flux_grammar.specs.Machine.{call}
use Rattle.flux_syntax.specs.At.{at}
use Rattle.flux_syntax.proofs.Chosen.{is_here, not_here}
use Rattle.flux_syntax.proofs.LabelChoices.{label_alone}
use Rattle.flux_syntax.proofs.Leads.{here, into, into_at, took, gives, piece_stops}
use Rattle.flux_syntax.proofs.reader.Reader.tested.Goals as goal

pub returns-then-not-is_at-clause-parses : goal.returns-then-not-is_at-clause-parses
returns-then-not-is_at-clause-parses c =
    gives (into (here (call (tested c.args.name c.args.typed)) (at c.args.self.now)) tt (label_alone c.args.name c.args.typed (head (at c.args.self.now)) (not_here c.is_at.ensures.here c.if-not-is_at.true)))

pub returns-in_err-take-clause-parses : goal.returns-in_err-take-clause-parses
returns-in_err-take-clause-parses c =
    piece_stops (at c.take.new.self) c.from_residual.result c.in_err-take.field-0.0 (took (into_at (here (call (tested c.args.name c.args.typed)) (at c.args.self.now)) tt (is_here c.is_at.ensures.here c.if-not-is_at.false) (λ k. refl)) (c.advance.ensures.took (Sign sign.Open) (is_here c.is_at.ensures.here c.if-not-is_at.false))) (err_from_is_err_and _ c.from_residual.ensures.1) c.in_err-take.ensures.took

pub returns-clause-parses : goal.returns-clause-parses
returns-clause-parses c =
    gives (took (took (into_at (here (call (tested c.args.name c.args.typed)) (at c.args.self.now)) tt (is_here c.is_at.ensures.here c.if-not-is_at.false) (λ k. refl)) (c.advance.ensures.took (Sign sign.Open) (is_here c.is_at.ensures.here c.if-not-is_at.false))) c.in_ok-take.ensures.took)
