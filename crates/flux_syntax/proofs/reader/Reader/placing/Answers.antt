use Rattle.std.proofs.Common.{refl}
use Rattle.std.proofs.lemmas.Result.{err_from_is_err_and}
use Rattle.flux_grammar.specs.declared.lexeme.Keyword.TheVariants as key
use Rattle.flux_grammar.specs.declared.lexeme.Lexeme.TheVariants.{Reserved}
use Rattle.flux_grammar.specs.declared.tree.Stmt.TheVariants as st
use Rattle.flux_grammar.specs.Grammar.{spanning, placing}
use Rattle.flux_grammar.specs.States.{head}
use Rattle.flux_grammar.specs.Machine.{call, mark}
use Rattle.flux_syntax.specs.At.{at}
use Rattle.flux_syntax.specs.Steps.{path_and_value}
use Rattle.flux_syntax.proofs.Chosen.{is_here, not_here}
use Rattle.flux_syntax.proofs.Leads.{here, into_at, took, given_by, past_mark, gives, piece_stops, reading_stops, none_here}
use Rattle.flux_syntax.proofs.StatementChoices.{no_placing}
use Rattle.flux_syntax.proofs.reader.Reader.placing.Goals as goal

pub returns-in_err-take_word-clause-parses : goal.returns-in_err-take_word-clause-parses
returns-in_err-take_word-clause-parses c =
    piece_stops (at c.take_word.new.self) c.from_residual.result c.in_err-take_word.field-0.0 (took (into_at (here (call (placing c.args.depth c.args.from)) (at c.args.self.now)) tt (is_here c.is_at_word.ensures.here c.if-is_at_word.true) (λ k. refl)) (c.advance.ensures.took (Reserved key.First) (is_here c.is_at_word.ensures.here c.if-is_at_word.true))) (err_from_is_err_and _ c.from_residual.ensures.1) c.in_err-take_word.ensures.took

pub returns-in_err-path-clause-parses : goal.returns-in_err-path-clause-parses
returns-in_err-path-clause-parses c =
    reading_stops (path_and_value c.args.depth) (λ k pq. mark (λ e. k (st.InsertFirst pq.0 pq.1 (spanning c.args.from e)))) (at c.path_and_value.new.self) c.from_residual-in_err-path.result c.in_err-path.field-0.0 (took (took (into_at (here (call (placing c.args.depth c.args.from)) (at c.args.self.now)) tt (is_here c.is_at_word.ensures.here c.if-is_at_word.true) (λ k. refl)) (c.advance.ensures.took (Reserved key.First) (is_here c.is_at_word.ensures.here c.if-is_at_word.true))) c.in_ok-take_word.ensures.took) (err_from_is_err_and _ c.from_residual-in_err-path.ensures.1) c.in_err-path.ensures.parses

pub returns-then-is_at_word-clause-parses : goal.returns-then-is_at_word-clause-parses
returns-then-is_at_word-clause-parses c =
    gives (past_mark (given_by (path_and_value c.args.depth) (λ k pq. mark (λ e. k (st.InsertFirst pq.0 pq.1 (spanning c.args.from e)))) (took (took (into_at (here (call (placing c.args.depth c.args.from)) (at c.args.self.now)) tt (is_here c.is_at_word.ensures.here c.if-is_at_word.true) (λ k. refl)) (c.advance.ensures.took (Reserved key.First) (is_here c.is_at_word.ensures.here c.if-is_at_word.true))) c.in_ok-take_word.ensures.took) c.in_ok-path.ensures.parses))

pub returns-in_err-take_word-2-clause-parses : goal.returns-in_err-take_word-2-clause-parses
returns-in_err-take_word-2-clause-parses c =
    piece_stops (at c.take_word-then-is_at_word-2.new.self) c.from_residual-in_err-take_word-2.result c.in_err-take_word-2.field-0.0 (took (into_at (here (call (placing c.args.depth c.args.from)) (at c.args.self.now)) tt (is_here c.is_at_word-2.ensures.here c.if-is_at_word-2.true) (λ k. refl)) (c.advance-then-is_at_word-2.ensures.took (Reserved key.Last) (is_here c.is_at_word-2.ensures.here c.if-is_at_word-2.true))) (err_from_is_err_and _ c.from_residual-in_err-take_word-2.ensures.1) c.in_err-take_word-2.ensures.took

pub returns-in_err-path-2-clause-parses : goal.returns-in_err-path-2-clause-parses
returns-in_err-path-2-clause-parses c =
    reading_stops (path_and_value c.args.depth) (λ k pq. mark (λ e. k (st.InsertLast pq.0 pq.1 (spanning c.args.from e)))) (at c.path_and_value-then-is_at_word-2.new.self) c.from_residual-in_err-path-2.result c.in_err-path-2.field-0.0 (took (took (into_at (here (call (placing c.args.depth c.args.from)) (at c.args.self.now)) tt (is_here c.is_at_word-2.ensures.here c.if-is_at_word-2.true) (λ k. refl)) (c.advance-then-is_at_word-2.ensures.took (Reserved key.Last) (is_here c.is_at_word-2.ensures.here c.if-is_at_word-2.true))) c.in_ok-take_word-2.ensures.took) (err_from_is_err_and _ c.from_residual-in_err-path-2.ensures.1) c.in_err-path-2.ensures.parses

pub returns-then-is_at_word-2-clause-parses : goal.returns-then-is_at_word-2-clause-parses
returns-then-is_at_word-2-clause-parses c =
    gives (past_mark (given_by (path_and_value c.args.depth) (λ k pq. mark (λ e. k (st.InsertLast pq.0 pq.1 (spanning c.args.from e)))) (took (took (into_at (here (call (placing c.args.depth c.args.from)) (at c.args.self.now)) tt (is_here c.is_at_word-2.ensures.here c.if-is_at_word-2.true) (λ k. refl)) (c.advance-then-is_at_word-2.ensures.took (Reserved key.Last) (is_here c.is_at_word-2.ensures.here c.if-is_at_word-2.true))) c.in_ok-take_word-2.ensures.took) c.in_ok-path-2.ensures.parses))

pub returns-clause-parses : goal.returns-clause-parses
returns-clause-parses c =
    none_here (placing c.args.depth c.args.from) (at c.args.self.now) (no_placing c.args.depth c.args.from (head (at c.args.self.now)) (not_here c.is_at_word.ensures.here c.if-is_at_word.false) (not_here c.is_at_word-2.ensures.here c.if-is_at_word-2.false))
