use Rattle.std.proofs.lemmas.Result.{err_from_is_err_and}
use Rattle.flux_grammar.specs.declared.lexeme.Lexeme.TheVariants.{Sign}
use Rattle.flux_grammar.specs.declared.lexeme.Sign.TheVariants as sign
use Rattle.flux_grammar.specs.States.{head}
use Rattle.flux_syntax.specs.At.{at}
use Rattle.flux_syntax.specs.Steps.{slash_step}
use Rattle.flux_syntax.proofs.Leads.{here, into, took, given, past_mark, gives, ends, part_stops}
use Rattle.flux_syntax.proofs.QueryChoices.{plain_step}
use Rattle.flux_syntax.proofs.reader.Reader.slash_step.Goals as goal

pub returns-in_err-test-in-None-clause-parses : goal.returns-in_err-test-in-None-clause-parses
returns-in_err-test-in-None-clause-parses c =
    part_stops (at c.other_test.new.self) c.from_residual.result c.in_err-test-in-None.field-0.0 (into (took (here (slash_step c.args.from) (at c.args.self.now)) (c.advance.ensures.took (Sign sign.Slash) c.requires.open)) tt (plain_step c.args.from (head (at c.advance.new.self)) c.in-None.ensures.name)) (err_from_is_err_and _ c.from_residual.ensures.1) c.in_err-test-in-None.ensures.parses

pub returns-in_ok-test-in-None-clause-parses : goal.returns-in_ok-test-in-None-clause-parses
returns-in_ok-test-in-None-clause-parses c =
    gives (past_mark (given (into (took (here (slash_step c.args.from) (at c.args.self.now)) (c.advance.ensures.took (Sign sign.Slash) c.requires.open)) tt (plain_step c.args.from (head (at c.advance.new.self)) c.in-None.ensures.name)) c.in_ok-test-in-None.ensures.parses))

pub returns-in-Some-clause-parses : goal.returns-in-Some-clause-parses
returns-in-Some-clause-parses c =
    ends (at c.child_step.new.self) c.child_step.result (took (here (slash_step c.args.from) (at c.args.self.now)) (c.advance.ensures.took (Sign sign.Slash) c.requires.open)) c.child_step.ensures.parses
