use Rattle.std.proofs.Common.{refl, ap}
use Rattle.std.proofs.lemmas.Result.{err_from_is_err_and}
use Rattle.flux_grammar.specs.declared.lexeme.Keyword.TheVariants as key
use Rattle.flux_grammar.specs.declared.lexeme.Lexeme.TheVariants.{Reserved}
use Rattle.flux_grammar.specs.declared.tree.Stmt.TheVariants as st
use Rattle.flux_grammar.specs.Grammar.{spanning, guard}
use Rattle.flux_grammar.specs.States.{end}
use Rattle.flux_grammar.specs.Machine.{call}
use Rattle.flux_syntax.specs.At.{at}
use Rattle.flux_syntax.proofs.Leads.{here, into_at, took, given, past_mark, gives_as, part_stops}
use Rattle.flux_syntax.proofs.reader.Reader.guarded.Goals as goal

pub returns-in_err-test-clause-parses : goal.returns-in_err-test-clause-parses
returns-in_err-test-clause-parses c =
    part_stops (at c.query.new.self) c.from_residual.result c.in_err-test.field-0.0 (took (into_at (here (call (guard c.args.depth c.args.inner)) (at c.args.self.now)) tt c.requires.open (λ k. refl)) (c.advance.ensures.took (Reserved key.Where) c.requires.open)) (err_from_is_err_and _ c.from_residual.ensures.1) c.in_err-test.ensures.parses

pub returns-clause-parses : goal.returns-clause-parses
returns-clause-parses c =
    gives_as (ap (λ b. st.Guarded c.args.inner c.in_ok-test.test (spanning b (end (at c.query.new.self)))) c.requires.from) (past_mark (given (took (into_at (here (call (guard c.args.depth c.args.inner)) (at c.args.self.now)) tt c.requires.open (λ k. refl)) (c.advance.ensures.took (Reserved key.Where) c.requires.open)) c.in_ok-test.ensures.parses))
