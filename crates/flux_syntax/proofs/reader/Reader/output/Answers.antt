use Rattle.std.proofs.Common.{refl}
use Rattle.std.proofs.lemmas.Result.{err_from_is_err_and}
use Rattle.flux_grammar.specs.declared.lexeme.Keyword.TheVariants as key
use Rattle.flux_grammar.specs.declared.lexeme.Lexeme.TheVariants.{Reserved}
use Rattle.flux_grammar.specs.Grammar.{output}
use Rattle.flux_grammar.specs.States.{head}
use Rattle.flux_grammar.specs.Machine.{call}
use Rattle.flux_syntax.specs.At.{at}
use Rattle.flux_syntax.proofs.Chosen.{is_here, not_here}
use Rattle.flux_syntax.proofs.Leads.{here, into, into_at, took, given, gives, part_stops}
use Rattle.flux_syntax.proofs.StatementChoices.{no_output}
use Rattle.flux_syntax.proofs.reader.Reader.output.Goals as goal

pub returns-then-not-is_at_word-clause-parses : goal.returns-then-not-is_at_word-clause-parses
returns-then-not-is_at_word-clause-parses c =
    gives (into (here (call output) (at c.args.self.now)) tt (no_output (head (at c.args.self.now)) (not_here c.is_at_word.ensures.here c.if-not-is_at_word.true)))

pub returns-in_err-output-clause-parses : goal.returns-in_err-output-clause-parses
returns-in_err-output-clause-parses c =
    part_stops (at c.type_text.new.self) c.from_residual.result c.in_err-output.field-0.0 (took (into_at (here (call output) (at c.args.self.now)) tt (is_here c.is_at_word.ensures.here c.if-not-is_at_word.false) (λ k. refl)) (c.advance.ensures.took (Reserved key.Output) (is_here c.is_at_word.ensures.here c.if-not-is_at_word.false))) (err_from_is_err_and _ c.from_residual.ensures.1) c.in_err-output.ensures.parses

pub returns-clause-parses : goal.returns-clause-parses
returns-clause-parses c =
    gives (given (took (into_at (here (call output) (at c.args.self.now)) tt (is_here c.is_at_word.ensures.here c.if-not-is_at_word.false) (λ k. refl)) (c.advance.ensures.took (Reserved key.Output) (is_here c.is_at_word.ensures.here c.if-not-is_at_word.false))) c.in_ok-output.ensures.parses)
