use Rattle.std.proofs.Common.{refl}
use Rattle.std.proofs.lemmas.Result.{err_from_is_err_and}
use Rattle.flux_grammar.specs.declared.lexeme.Keyword.TheVariants as key
use Rattle.flux_grammar.specs.declared.lexeme.Lexeme.TheVariants.{Reserved}
use Rattle.flux_grammar.specs.declared.tree.Stmt.TheVariants as st
use Rattle.flux_grammar.specs.Grammar.{spanning, inserting}
use Rattle.flux_grammar.specs.States.{head}
use Rattle.flux_grammar.specs.Machine.{call, mark}
use Rattle.flux_syntax.specs.At.{at}
use Rattle.flux_syntax.specs.Steps.{path_and_value}
use Rattle.flux_syntax.proofs.Chosen.{is_here, not_here}
use Rattle.flux_syntax.proofs.Leads.{here, into_at, took, given, given_by, past_mark, gives, ends, part_stops, reading_stops, none_here}
use Rattle.flux_syntax.proofs.StatementChoices.{no_inserting}
use Rattle.flux_syntax.proofs.reader.Reader.inserting.Goals as goal

pub returns-in_err-value-clause-parses : goal.returns-in_err-value-clause-parses
returns-in_err-value-clause-parses c =
    part_stops (at c.query.new.self) c.from_residual.result c.in_err-value.field-0.0 (took (into_at (here (call (inserting c.args.depth c.args.from)) (at c.args.self.now)) tt (is_here c.is_at_word.ensures.here c.if-is_at_word.true) (λ k. refl)) (c.advance.ensures.took (Reserved key.Value) (is_here c.is_at_word.ensures.here c.if-is_at_word.true))) (err_from_is_err_and _ c.from_residual.ensures.1) c.in_err-value.ensures.parses

pub returns-then-is_at_word-clause-parses : goal.returns-then-is_at_word-clause-parses
returns-then-is_at_word-clause-parses c =
    gives (past_mark (given (took (into_at (here (call (inserting c.args.depth c.args.from)) (at c.args.self.now)) tt (is_here c.is_at_word.ensures.here c.if-is_at_word.true) (λ k. refl)) (c.advance.ensures.took (Reserved key.Value) (is_here c.is_at_word.ensures.here c.if-is_at_word.true))) c.in_ok-value.ensures.parses))

pub returns-in_err-path-clause-parses : goal.returns-in_err-path-clause-parses
returns-in_err-path-clause-parses c =
    reading_stops (path_and_value c.args.depth) (λ k pq. mark (λ e. k (st.InsertBefore pq.0 pq.1 (spanning c.args.from e)))) (at c.path_and_value.new.self) c.from_residual-in_err-path.result c.in_err-path.field-0.0 (took (into_at (here (call (inserting c.args.depth c.args.from)) (at c.args.self.now)) tt (is_here c.is_at_word-2.ensures.here c.if-is_at_word-2.true) (λ k. refl)) (c.advance-then-is_at_word-2.ensures.took (Reserved key.Before) (is_here c.is_at_word-2.ensures.here c.if-is_at_word-2.true))) (err_from_is_err_and _ c.from_residual-in_err-path.ensures.1) c.in_err-path.ensures.parses

pub returns-then-is_at_word-2-clause-parses : goal.returns-then-is_at_word-2-clause-parses
returns-then-is_at_word-2-clause-parses c =
    gives (past_mark (given_by (path_and_value c.args.depth) (λ k pq. mark (λ e. k (st.InsertBefore pq.0 pq.1 (spanning c.args.from e)))) (took (into_at (here (call (inserting c.args.depth c.args.from)) (at c.args.self.now)) tt (is_here c.is_at_word-2.ensures.here c.if-is_at_word-2.true) (λ k. refl)) (c.advance-then-is_at_word-2.ensures.took (Reserved key.Before) (is_here c.is_at_word-2.ensures.here c.if-is_at_word-2.true))) c.in_ok-path.ensures.parses))

pub returns-in_err-path-2-clause-parses : goal.returns-in_err-path-2-clause-parses
returns-in_err-path-2-clause-parses c =
    reading_stops (path_and_value c.args.depth) (λ k pq. mark (λ e. k (st.InsertAfter pq.0 pq.1 (spanning c.args.from e)))) (at c.path_and_value-then-is_at_word-3.new.self) c.from_residual-in_err-path-2.result c.in_err-path-2.field-0.0 (took (into_at (here (call (inserting c.args.depth c.args.from)) (at c.args.self.now)) tt (is_here c.is_at_word-3.ensures.here c.if-is_at_word-3.true) (λ k. refl)) (c.advance-then-is_at_word-3.ensures.took (Reserved key.After) (is_here c.is_at_word-3.ensures.here c.if-is_at_word-3.true))) (err_from_is_err_and _ c.from_residual-in_err-path-2.ensures.1) c.in_err-path-2.ensures.parses

pub returns-then-is_at_word-3-clause-parses : goal.returns-then-is_at_word-3-clause-parses
returns-then-is_at_word-3-clause-parses c =
    gives (past_mark (given_by (path_and_value c.args.depth) (λ k pq. mark (λ e. k (st.InsertAfter pq.0 pq.1 (spanning c.args.from e)))) (took (into_at (here (call (inserting c.args.depth c.args.from)) (at c.args.self.now)) tt (is_here c.is_at_word-3.ensures.here c.if-is_at_word-3.true) (λ k. refl)) (c.advance-then-is_at_word-3.ensures.took (Reserved key.After) (is_here c.is_at_word-3.ensures.here c.if-is_at_word-3.true))) c.in_ok-path-2.ensures.parses))

pub returns-then-is_at_word-4-clause-parses : goal.returns-then-is_at_word-4-clause-parses
returns-then-is_at_word-4-clause-parses c =
    ends (at c.placing.new.self) c.placing.result (took (into_at (here (call (inserting c.args.depth c.args.from)) (at c.args.self.now)) tt (is_here c.is_at_word-4.ensures.here c.if-is_at_word-4.true) (λ k. refl)) (c.advance-then-is_at_word-4.ensures.took (Reserved key.As) (is_here c.is_at_word-4.ensures.here c.if-is_at_word-4.true))) c.placing.ensures.parses

pub returns-clause-parses : goal.returns-clause-parses
returns-clause-parses c =
    none_here (inserting c.args.depth c.args.from) (at c.args.self.now) (no_inserting c.args.depth c.args.from (head (at c.args.self.now)) (not_here c.is_at_word.ensures.here c.if-is_at_word.false) (not_here c.is_at_word-2.ensures.here c.if-is_at_word-2.false) (not_here c.is_at_word-3.ensures.here c.if-is_at_word-3.false) (not_here c.is_at_word-4.ensures.here c.if-is_at_word-4.false))
