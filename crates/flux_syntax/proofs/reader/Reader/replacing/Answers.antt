use Rattle.std.proofs.Common.{refl}
use Rattle.std.proofs.lemmas.Result.{err_from_is_err_and}
use Rattle.flux_grammar.specs.declared.lexeme.Keyword.TheVariants as key
use Rattle.flux_grammar.specs.declared.lexeme.Lexeme.TheVariants.{Reserved}
use Rattle.flux_grammar.specs.declared.tree.Stmt.TheVariants as st
use Rattle.flux_grammar.specs.Grammar.{spanning, replacing}
use Rattle.flux_grammar.specs.States.{head}
use Rattle.flux_grammar.specs.Machine.{call, mark}
use Rattle.flux_syntax.specs.At.{at}
use Rattle.flux_syntax.specs.Steps.{path_and_other}
use Rattle.flux_syntax.proofs.Chosen.{is_here, not_here}
use Rattle.flux_syntax.proofs.Leads.{here, into, into_at, took, given_by, past_mark, gives, reading_stops}
use Rattle.flux_syntax.proofs.StatementChoices.{replaces_path}
use Rattle.flux_syntax.proofs.reader.Reader.replacing.Goals as goal

pub returns-in_err-path-clause-parses : goal.returns-in_err-path-clause-parses
returns-in_err-path-clause-parses c =
    reading_stops (path_and_other c.args.depth) (λ k pq. mark (λ e. k (st.ReplaceIn pq.0 pq.1 (spanning c.args.from e)))) (at c.path_and_other.new.self) c.from_residual.result c.in_err-path.field-0.0 (took (into_at (here (call (replacing c.args.depth c.args.from)) (at c.args.self.now)) tt (is_here c.is_at_word.ensures.here c.if-is_at_word.true) (λ k. refl)) (c.advance.ensures.took (Reserved key.In) (is_here c.is_at_word.ensures.here c.if-is_at_word.true))) (err_from_is_err_and _ c.from_residual.ensures.1) c.in_err-path.ensures.parses

pub returns-then-is_at_word-clause-parses : goal.returns-then-is_at_word-clause-parses
returns-then-is_at_word-clause-parses c =
    gives (past_mark (given_by (path_and_other c.args.depth) (λ k pq. mark (λ e. k (st.ReplaceIn pq.0 pq.1 (spanning c.args.from e)))) (took (into_at (here (call (replacing c.args.depth c.args.from)) (at c.args.self.now)) tt (is_here c.is_at_word.ensures.here c.if-is_at_word.true) (λ k. refl)) (c.advance.ensures.took (Reserved key.In) (is_here c.is_at_word.ensures.here c.if-is_at_word.true))) c.in_ok-path.ensures.parses))

pub returns-in_err-path-2-clause-parses : goal.returns-in_err-path-2-clause-parses
returns-in_err-path-2-clause-parses c =
    reading_stops (path_and_other c.args.depth) (λ k pq. mark (λ e. k (st.Replace pq.0 pq.1 (spanning c.args.from e)))) (at c.path_and_other-2.new.self) c.from_residual-in_err-path-2.result c.in_err-path-2.field-0.0 (into (here (call (replacing c.args.depth c.args.from)) (at c.args.self.now)) tt (replaces_path c.args.depth c.args.from (head (at c.args.self.now)) (not_here c.is_at_word.ensures.here c.if-is_at_word.false))) (err_from_is_err_and _ c.from_residual-in_err-path-2.ensures.1) c.in_err-path-2.ensures.parses

pub returns-clause-parses : goal.returns-clause-parses
returns-clause-parses c =
    gives (past_mark (given_by (path_and_other c.args.depth) (λ k pq. mark (λ e. k (st.Replace pq.0 pq.1 (spanning c.args.from e)))) (into (here (call (replacing c.args.depth c.args.from)) (at c.args.self.now)) tt (replaces_path c.args.depth c.args.from (head (at c.args.self.now)) (not_here c.is_at_word.ensures.here c.if-is_at_word.false))) c.in_ok-path-2.ensures.parses))
