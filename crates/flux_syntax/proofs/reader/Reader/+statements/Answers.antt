use Rattle.std.proofs.Common.{◌+◌, ◌++◌, [], ◌∷◌, refl, ap, ◌∙◌, arith}
use Rattle.std.proofs.lemmas.Result.{err_from_is_err_and}
use Rattle.flux_grammar.specs.declared.lexeme.Keyword.TheVariants as key
use Rattle.flux_grammar.specs.declared.lexeme.Lexeme.TheVariants.{Reserved, Sign}
use Rattle.flux_grammar.specs.declared.lexeme.Sign.TheVariants as sign
use Rattle.flux_grammar.specs.Grammar.{stmts, nexts, stmt, simple}
use Rattle.flux_grammar.specs.States.{head}
use Rattle.flux_grammar.specs.Machine.{call}
use Rattle.flux_syntax.specs.At.{at}
use Rattle.flux_syntax.proofs.Chosen.{is_here, not_here}
use Rattle.flux_syntax.proofs.Leads.{deep_here, here, passes, same_tree, into, into_at, took, given, past_mark, turned, gives, gives_as, gives_all, ends, part_stops, piece_stops, none_here}
use Rattle.flux_syntax.proofs.StatementChoices.{same_guard, with_bound, with_test, no_nexts, ended, goes_on, simple_stmt, unguarded, no_simple}
use Rattle.flux_syntax.proofs.reader.Reader.+statements.Goals as goal

pub binding-returns-in_err-name-clause-parses : goal.binding-returns-in_err-name-clause-parses
binding-returns-in_err-name-clause-parses t c =
    part_stops (at c.var.new.self) c.from_residual.result c.in_err-name.field-0.0 (took (into_at (here (call (stmt c.args.depth)) (at c.args.self.now)) (λ _. c.requires.depth) c.requires.open (λ k. refl)) (c.advance-word.ensures.took (Reserved key.Let) c.requires.open)) (err_from_is_err_and _ c.from_residual.ensures.1) c.in_err-name.ensures.parses

pub binding-returns-in_err-take-clause-parses : goal.binding-returns-in_err-take-clause-parses
binding-returns-in_err-take-clause-parses t c =
    piece_stops (at c.take.new.self) c.from_residual-in_err-take.result c.in_err-take.field-0.0 (given (took (into_at (here (call (stmt c.args.depth)) (at c.args.self.now)) (λ _. c.requires.depth) c.requires.open (λ k. refl)) (c.advance-word.ensures.took (Reserved key.Let) c.requires.open)) c.in_ok-name.ensures.parses) (err_from_is_err_and _ c.from_residual-in_err-take.ensures.1) c.in_err-take.ensures.took

pub binding-returns-in_err-bound-clause-parses : goal.binding-returns-in_err-bound-clause-parses
binding-returns-in_err-bound-clause-parses t c =
    part_stops (at c.boxed_query.new.self) c.from_residual-in_err-bound.result c.in_err-bound.field-0.0 (took (given (took (into_at (here (call (stmt c.args.depth)) (at c.args.self.now)) (λ _. c.requires.depth) c.requires.open (λ k. refl)) (c.advance-word.ensures.took (Reserved key.Let) c.requires.open)) c.in_ok-name.ensures.parses) c.in_ok-take.ensures.took) (err_from_is_err_and _ c.from_residual-in_err-bound.ensures.1) c.in_err-bound.ensures.parses

pub binding-returns-in_err-take_word-clause-parses : goal.binding-returns-in_err-take_word-clause-parses
binding-returns-in_err-take_word-clause-parses t c =
    piece_stops (at c.take_word.new.self) c.from_residual-in_err-take_word.result c.in_err-take_word.field-0.0 (given (took (given (took (into_at (here (call (stmt c.args.depth)) (at c.args.self.now)) (λ _. c.requires.depth) c.requires.open (λ k. refl)) (c.advance-word.ensures.took (Reserved key.Let) c.requires.open)) c.in_ok-name.ensures.parses) c.in_ok-take.ensures.took) c.in_ok-bound.ensures.parses) (err_from_is_err_and _ c.from_residual-in_err-take_word.ensures.1) c.in_err-take_word.ensures.took

pub binding-returns-in_err-body-clause-parses : goal.binding-returns-in_err-body-clause-parses
binding-returns-in_err-body-clause-parses t c =
    part_stops (at c.boxed_statement.new.self) c.from_residual-in_err-body.result c.in_err-body.field-0.0 (took (given (took (given (took (into_at (here (call (stmt c.args.depth)) (at c.args.self.now)) (λ _. c.requires.depth) c.requires.open (λ k. refl)) (c.advance-word.ensures.took (Reserved key.Let) c.requires.open)) c.in_ok-name.ensures.parses) c.in_ok-take.ensures.took) c.in_ok-bound.ensures.parses) c.in_ok-take_word.ensures.took) (err_from_is_err_and _ c.from_residual-in_err-body.ensures.1) c.in_err-body.ensures.parses

pub binding-returns-clause-parses : goal.binding-returns-clause-parses
binding-returns-clause-parses t c =
    gives_as (with_bound c.in_ok-body.body c.into_inner.ensures) (past_mark (given (took (given (took (given (took (into_at (here (call (stmt c.args.depth)) (at c.args.self.now)) (λ _. c.requires.depth) c.requires.open (λ k. refl)) (c.advance-word.ensures.took (Reserved key.Let) c.requires.open)) c.in_ok-name.ensures.parses) c.in_ok-take.ensures.took) c.in_ok-bound.ensures.parses) c.in_ok-take_word.ensures.took) c.in_ok-body.ensures.parses))

pub block-returns-in_err-body-clause-parses : goal.block-returns-in_err-body-clause-parses
block-returns-in_err-body-clause-parses t c =
    part_stops (at c.statements.new.self) c.from_residual.result c.in_err-body.field-0.0 (took (into_at (here (call (simple c.args.depth)) (at c.args.self.now)) tt c.requires.open (λ k. refl)) (c.advance-open.ensures.took (Sign sign.OpenBrace) c.requires.open)) (err_from_is_err_and _ c.from_residual.ensures.1) c.in_err-body.ensures.parses

pub block-returns-in_err-close-clause-parses : goal.block-returns-in_err-close-clause-parses
block-returns-in_err-close-clause-parses t c =
    piece_stops (at c.take.new.self) c.from_residual-in_err-close.result c.in_err-close.field-0.0 (given (took (into_at (here (call (simple c.args.depth)) (at c.args.self.now)) tt c.requires.open (λ k. refl)) (c.advance-open.ensures.took (Sign sign.OpenBrace) c.requires.open)) c.in_ok-body.ensures.parses) (err_from_is_err_and _ c.from_residual-in_err-close.ensures.1) c.in_err-close.ensures.took

pub block-returns-clause-parses : goal.block-returns-clause-parses
block-returns-clause-parses t c =
    gives (took (given (took (into_at (here (call (simple c.args.depth)) (at c.args.self.now)) tt c.requires.open (λ k. refl)) (c.advance-open.ensures.took (Sign sign.OpenBrace) c.requires.open)) c.in_ok-body.ensures.parses) c.in_ok-close.ensures.took)

pub conditional-returns-in_err-test-clause-parses : goal.conditional-returns-in_err-test-clause-parses
conditional-returns-in_err-test-clause-parses t c =
    part_stops (at c.boxed_query.new.self) c.from_residual.result c.in_err-test.field-0.0 (took (into_at (here (call (stmt c.args.depth)) (at c.args.self.now)) (λ _. c.requires.depth) c.requires.open (λ k. refl)) (c.advance-word.ensures.took (Reserved key.If) c.requires.open)) (err_from_is_err_and _ c.from_residual.ensures.1) c.in_err-test.ensures.parses

pub conditional-returns-in_err-take_word-clause-parses : goal.conditional-returns-in_err-take_word-clause-parses
conditional-returns-in_err-take_word-clause-parses t c =
    piece_stops (at c.take_word.new.self) c.from_residual-in_err-take_word.result c.in_err-take_word.field-0.0 (given (took (into_at (here (call (stmt c.args.depth)) (at c.args.self.now)) (λ _. c.requires.depth) c.requires.open (λ k. refl)) (c.advance-word.ensures.took (Reserved key.If) c.requires.open)) c.in_ok-test.ensures.parses) (err_from_is_err_and _ c.from_residual-in_err-take_word.ensures.1) c.in_err-take_word.ensures.took

pub conditional-returns-in_err-yes-clause-parses : goal.conditional-returns-in_err-yes-clause-parses
conditional-returns-in_err-yes-clause-parses t c =
    part_stops (at c.boxed_statement.new.self) c.from_residual-in_err-yes.result c.in_err-yes.field-0.0 (took (given (took (into_at (here (call (stmt c.args.depth)) (at c.args.self.now)) (λ _. c.requires.depth) c.requires.open (λ k. refl)) (c.advance-word.ensures.took (Reserved key.If) c.requires.open)) c.in_ok-test.ensures.parses) c.in_ok-take_word.ensures.took) (err_from_is_err_and _ c.from_residual-in_err-yes.ensures.1) c.in_err-yes.ensures.parses

pub conditional-returns-in_err-take_word-2-clause-parses : goal.conditional-returns-in_err-take_word-2-clause-parses
conditional-returns-in_err-take_word-2-clause-parses t c =
    piece_stops (at c.take_word-2.new.self) c.from_residual-in_err-take_word-2.result c.in_err-take_word-2.field-0.0 (given (took (given (took (into_at (here (call (stmt c.args.depth)) (at c.args.self.now)) (λ _. c.requires.depth) c.requires.open (λ k. refl)) (c.advance-word.ensures.took (Reserved key.If) c.requires.open)) c.in_ok-test.ensures.parses) c.in_ok-take_word.ensures.took) c.in_ok-yes.ensures.parses) (err_from_is_err_and _ c.from_residual-in_err-take_word-2.ensures.1) c.in_err-take_word-2.ensures.took

pub conditional-returns-in_err-no-clause-parses : goal.conditional-returns-in_err-no-clause-parses
conditional-returns-in_err-no-clause-parses t c =
    part_stops (at c.boxed_statement-2.new.self) c.from_residual-in_err-no.result c.in_err-no.field-0.0 (took (given (took (given (took (into_at (here (call (stmt c.args.depth)) (at c.args.self.now)) (λ _. c.requires.depth) c.requires.open (λ k. refl)) (c.advance-word.ensures.took (Reserved key.If) c.requires.open)) c.in_ok-test.ensures.parses) c.in_ok-take_word.ensures.took) c.in_ok-yes.ensures.parses) c.in_ok-take_word-2.ensures.took) (err_from_is_err_and _ c.from_residual-in_err-no.ensures.1) c.in_err-no.ensures.parses

pub conditional-returns-clause-parses : goal.conditional-returns-clause-parses
conditional-returns-clause-parses t c =
    gives_as (with_test c.in_ok-yes.yes c.in_ok-no.no c.into_inner.ensures) (past_mark (given (took (given (took (given (took (into_at (here (call (stmt c.args.depth)) (at c.args.self.now)) (λ _. c.requires.depth) c.requires.open (λ k. refl)) (c.advance-word.ensures.took (Reserved key.If) c.requires.open)) c.in_ok-test.ensures.parses) c.in_ok-take_word.ensures.took) c.in_ok-yes.ensures.parses) c.in_ok-take_word-2.ensures.took) c.in_ok-no.ensures.parses))

pub simple-returns-then-is_at_word-clause-parses : goal.simple-returns-then-is_at_word-clause-parses
simple-returns-then-is_at_word-clause-parses t c =
    gives (took (into_at (here (call (simple c.args.depth)) (at c.args.self.now)) tt (is_here c.is_at_word.ensures.here c.if-is_at_word.true) (λ k. refl)) (c.advance-at.ensures.took (Reserved key.Skip) (is_here c.is_at_word.ensures.here c.if-is_at_word.true)))

pub simple-returns-then-is_at_word-2-clause-parses : goal.simple-returns-then-is_at_word-2-clause-parses
simple-returns-then-is_at_word-2-clause-parses t c =
    ends (at c.inserting.new.self) c.inserting.result (took (into_at (here (call (simple c.args.depth)) (at c.args.self.now)) tt (is_here c.is_at_word-2.ensures.here c.if-is_at_word-2.true) (λ k. refl)) (c.advance-from.ensures.took (Reserved key.Insert) (is_here c.is_at_word-2.ensures.here c.if-is_at_word-2.true))) c.inserting.ensures.parses

pub simple-returns-then-is_at_word-3-clause-parses : goal.simple-returns-then-is_at_word-3-clause-parses
simple-returns-then-is_at_word-3-clause-parses t c =
    ends (at c.deleting.new.self) c.deleting.result (took (into_at (here (call (simple c.args.depth)) (at c.args.self.now)) tt (is_here c.is_at_word-3.ensures.here c.if-is_at_word-3.true) (λ k. refl)) (c.advance-from-then-is_at_word-3.ensures.took (Reserved key.Delete) (is_here c.is_at_word-3.ensures.here c.if-is_at_word-3.true))) c.deleting.ensures.parses

pub simple-returns-then-is_at_word-4-clause-parses : goal.simple-returns-then-is_at_word-4-clause-parses
simple-returns-then-is_at_word-4-clause-parses t c =
    ends (at c.replacing.new.self) c.replacing.result (took (into_at (here (call (simple c.args.depth)) (at c.args.self.now)) tt (is_here c.is_at_word-4.ensures.here c.if-is_at_word-4.true) (λ k. refl)) (c.advance-from-then-is_at_word-4.ensures.took (Reserved key.Replace) (is_here c.is_at_word-4.ensures.here c.if-is_at_word-4.true))) c.replacing.ensures.parses

pub simple-returns-clause-parses : goal.simple-returns-clause-parses
simple-returns-clause-parses t c =
    none_here (simple c.args.depth) (at c.args.self.now) (no_simple c.args.depth (head (at c.args.self.now)) (not_here c.is_at_word.ensures.here c.if-is_at_word.false) (not_here c.is_at_word-2.ensures.here c.if-is_at_word-2.false) (not_here c.is_at_word-3.ensures.here c.if-is_at_word-3.false) (not_here c.is_at_word-4.ensures.here c.if-is_at_word-4.false) (not_here c.is_at_word-5.ensures.here c.if-is_at_word-5.false) (not_here c.is_at_word-6.ensures.here c.if-is_at_word-6.false) (not_here c.is_at.ensures.here c.if-is_at.false))

pub statement-returns-then-depth-ge-LIMIT-clause-parses : goal.statement-returns-then-depth-ge-LIMIT-clause-parses
statement-returns-then-depth-ge-LIMIT-clause-parses t c =
    deep_here (stmt c.args.depth) (at c.args.self.now) c.args.depth c.if-depth-ge-LIMIT.true (λ free. free tt)

pub statement-returns-in_err-inner-clause-parses : goal.statement-returns-in_err-inner-clause-parses
statement-returns-in_err-inner-clause-parses t c =
    part_stops (at c.simple.new.self) c.from_residual.result c.in_err-inner.field-0.0 (into (here (call (stmt c.args.depth)) (at c.args.self.now)) (λ _. c.if-depth-ge-LIMIT.false) (simple_stmt c.args.depth (head (at c.args.self.now)) (not_here c.is_at_word.ensures.here c.if-is_at_word.false) (not_here c.is_at_word-2.ensures.here c.if-is_at_word-2.false) (not_here c.is_at_word-3.ensures.here c.if-is_at_word-3.false))) (err_from_is_err_and _ c.from_residual.ensures.1) c.in_err-inner.ensures.parses

pub statement-returns-then-not-is_at_word-clause-parses : goal.statement-returns-then-not-is_at_word-clause-parses
statement-returns-then-not-is_at_word-clause-parses t c =
    gives (into (given (into (here (call (stmt c.args.depth)) (at c.args.self.now)) (λ _. c.if-depth-ge-LIMIT.false) (simple_stmt c.args.depth (head (at c.args.self.now)) (not_here c.is_at_word.ensures.here c.if-is_at_word.false) (not_here c.is_at_word-2.ensures.here c.if-is_at_word-2.false) (not_here c.is_at_word-3.ensures.here c.if-is_at_word-3.false))) c.in_ok-inner.ensures.parses) tt (unguarded (c.args.depth + 1) c.in_ok-inner.inner (head (at c.simple.new.self)) (not_here c.is_at_word-4.ensures.here c.if-not-is_at_word.true)))

pub statement-returns-clause-parses : goal.statement-returns-clause-parses
statement-returns-clause-parses t c =
    ends (at c.guarded.new.self) c.guarded.result (same_guard c.in_ok-inner-2.ensures (given (into (here (call (stmt c.args.depth)) (at c.args.self.now)) (λ _. c.if-depth-ge-LIMIT.false) (simple_stmt c.args.depth (head (at c.args.self.now)) (not_here c.is_at_word.ensures.here c.if-is_at_word.false) (not_here c.is_at_word-2.ensures.here c.if-is_at_word-2.false) (not_here c.is_at_word-3.ensures.here c.if-is_at_word-3.false))) c.in_ok-inner.ensures.parses)) c.guarded.ensures.parses

pub boxed_statement-returns-in_err-tree-clause-parses : goal.boxed_statement-returns-in_err-tree-clause-parses
boxed_statement-returns-in_err-tree-clause-parses t c =
    passes (call (stmt c.args.depth)) (at c.args.self.now) (at c.statement.new.self) c.from_residual.result c.in_err-tree.field-0.0 (err_from_is_err_and _ c.from_residual.ensures.1) c.in_err-tree.ensures.parses

pub boxed_statement-returns-clause-parses : goal.boxed_statement-returns-clause-parses
boxed_statement-returns-clause-parses t c =
    same_tree c.in_ok-new.ensures c.in_ok-tree.ensures.parses

pub statements-returns-in_err-first-clause-parses : goal.statements-returns-in_err-first-clause-parses
statements-returns-in_err-first-clause-parses t c =
    part_stops (at c.statement.new.self) c.from_residual.result c.in_err-first.field-0.0 (into (here (call (stmts c.args.depth)) (at c.args.self.now)) tt (λ k. refl)) (err_from_is_err_and _ c.from_residual.ensures.1) c.in_err-first.ensures.parses

pub statements-loop-self-init : goal.statements-loop-self-init
statements-loop-self-init t c =
    record { same = refl; shorter = omega arith; on = turned (call (nexts c.args.depth)) [] c.in_ok-first.first (c.in_ok-push.ensures.ok ∙ ap (λ l. l ++ c.in_ok-first.first ∷ []) c.new-all.ensures) (given (into (here (call (stmts c.args.depth)) (at c.args.self.now)) tt (λ k. refl)) c.in_ok-first.ensures.parses) }

pub statements-returns-then-is_ending-clause-parses : goal.statements-returns-then-is_ending-clause-parses
statements-returns-then-is_ending-clause-parses t c =
    gives_all (into (took (into_at c.loop-self.invariant.on tt (is_here c.is_at.ensures.here c.loop-self-test.true) (λ k. refl)) (c.advance.ensures.took (Sign sign.Semicolon) (is_here c.is_at.ensures.here c.loop-self-test.true))) tt (ended c.args.depth (head (at c.advance.new.self)) (is_here c.is_ending.ensures c.if-is_ending.true)))

pub statements-returns-in_err-next-clause-parses : goal.statements-returns-in_err-next-clause-parses
statements-returns-in_err-next-clause-parses t c =
    part_stops (at c.statement-in-loop-self.new.self) c.from_residual-in_err-next.result c.in_err-next.field-0.0 (into (into (took (into_at c.loop-self.invariant.on tt (is_here c.is_at.ensures.here c.loop-self-test.true) (λ k. refl)) (c.advance.ensures.took (Sign sign.Semicolon) (is_here c.is_at.ensures.here c.loop-self-test.true))) tt (goes_on c.args.depth (head (at c.advance.new.self)) (not_here c.is_ending.ensures c.if-is_ending.false))) tt (λ k. refl)) (err_from_is_err_and _ c.from_residual-in_err-next.ensures.1) c.in_err-next.ensures.parses

pub statements-loop-self-preserved : goal.statements-loop-self-preserved
statements-loop-self-preserved t c =
    record {
      same = c.loop-self.invariant.same;
      shorter = omega arith;
      on = turned (call (nexts c.args.depth)) c.loop-self.all c.in_ok-next.next c.in_ok-push-2.ensures.ok (given (into (into (took (into_at c.loop-self.invariant.on tt (is_here c.is_at.ensures.here c.loop-self-test.true) (λ k. refl)) (c.advance.ensures.took (Sign sign.Semicolon) (is_here c.is_at.ensures.here c.loop-self-test.true))) tt (goes_on c.args.depth (head (at c.advance.new.self)) (not_here c.is_ending.ensures c.if-is_ending.false))) tt (λ k. refl)) c.in_ok-next.ensures.parses);
    }

pub statements-returns-clause-parses : goal.statements-returns-clause-parses
statements-returns-clause-parses t c =
    gives_all (into c.loop-self.invariant.on tt (no_nexts c.args.depth (head (at c.loop-self.self)) (not_here c.is_at.ensures.here c.loop-self-test.false)))

pub update-returns-in_err-path-clause-parses : goal.update-returns-in_err-path-clause-parses
update-returns-in_err-path-clause-parses t c =
    part_stops (at c.path.new.self) c.from_residual.result c.in_err-path.field-0.0 (took (into_at (here (call (stmt c.args.depth)) (at c.args.self.now)) (λ _. c.requires.depth) c.requires.open (λ k. refl)) (c.advance-word.ensures.took (Reserved key.Update) c.requires.open)) (err_from_is_err_and _ c.from_residual.ensures.1) c.in_err-path.ensures.parses

pub update-returns-in_err-take_word-clause-parses : goal.update-returns-in_err-take_word-clause-parses
update-returns-in_err-take_word-clause-parses t c =
    piece_stops (at c.take_word.new.self) c.from_residual-in_err-take_word.result c.in_err-take_word.field-0.0 (given (took (into_at (here (call (stmt c.args.depth)) (at c.args.self.now)) (λ _. c.requires.depth) c.requires.open (λ k. refl)) (c.advance-word.ensures.took (Reserved key.Update) c.requires.open)) c.in_ok-path.ensures.parses) (err_from_is_err_and _ c.from_residual-in_err-take_word.ensures.1) c.in_err-take_word.ensures.took

pub update-returns-in_err-body-clause-parses : goal.update-returns-in_err-body-clause-parses
update-returns-in_err-body-clause-parses t c =
    part_stops (at c.boxed_statement.new.self) c.from_residual-in_err-body.result c.in_err-body.field-0.0 (took (given (took (into_at (here (call (stmt c.args.depth)) (at c.args.self.now)) (λ _. c.requires.depth) c.requires.open (λ k. refl)) (c.advance-word.ensures.took (Reserved key.Update) c.requires.open)) c.in_ok-path.ensures.parses) c.in_ok-take_word.ensures.took) (err_from_is_err_and _ c.from_residual-in_err-body.ensures.1) c.in_err-body.ensures.parses

pub update-returns-clause-parses : goal.update-returns-clause-parses
update-returns-clause-parses t c =
    gives (past_mark (given (took (given (took (into_at (here (call (stmt c.args.depth)) (at c.args.self.now)) (λ _. c.requires.depth) c.requires.open (λ k. refl)) (c.advance-word.ensures.took (Reserved key.Update) c.requires.open)) c.in_ok-path.ensures.parses) c.in_ok-take_word.ensures.took) c.in_ok-body.ensures.parses))
