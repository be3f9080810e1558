use Rattle.std.proofs.Common.{◌∷◌, ◌++◌, refl, arith}
use Rattle.std.proofs.lemmas.Result.{err_from_is_err_and}
use Rattle.flux_grammar.specs.declared.lexeme.Lexeme.TheVariants.{Sign}
use Rattle.flux_grammar.specs.declared.lexeme.Sign.TheVariants as sign
use Rattle.flux_grammar.specs.Grammar.{steps}
use Rattle.flux_grammar.specs.States.{head}
use Rattle.flux_grammar.specs.Machine.{call}
use Rattle.flux_syntax.specs.At.{at}
use Rattle.flux_syntax.specs.Steps.{slash_step}
use Rattle.flux_syntax.proofs.Chosen.{is_here, not_here}
use Rattle.flux_syntax.proofs.Leads.{into, into_at, took, given, given_by, past_mark, begun, turned, gives_all, part_stops, reading_stops}
use Rattle.flux_syntax.proofs.QueryChoices.{no_steps}
use Rattle.flux_syntax.proofs.reader.Reader.steps.Goals as goal

pub loop-self-init : goal.loop-self-init
loop-self-init c =
    record { same = refl; shorter = omega arith; on = begun (call (steps c.args.from)) c.new-all.ensures }

pub returns-in_err-step-clause-parses : goal.returns-in_err-step-clause-parses
returns-in_err-step-clause-parses c =
    reading_stops (slash_step c.args.from) (λ k s. call (steps c.args.from) (λ ss. k (c.loop-self.all ++ (s ∷ ss)))) (at c.slash_step.new.self) c.from_residual.result c.in_err-step.field-0.0 (into_at c.loop-self.invariant.on tt (is_here c.is_at.ensures.here c.if-is_at.true) (λ k. refl)) (err_from_is_err_and _ c.from_residual.ensures.1) c.in_err-step.ensures.parses

pub loop-self-preserved-in-Continue-branch-2 : goal.loop-self-preserved-in-Continue-branch-2
loop-self-preserved-in-Continue-branch-2 c =
    record {
      same = c.loop-self.invariant.same;
      shorter = omega arith;
      on = turned (call (steps c.args.from)) c.loop-self.all c.in_ok-step.step c.in_ok-push.ensures.ok (given_by (slash_step c.args.from) (λ k s. call (steps c.args.from) (λ ss. k (c.loop-self.all ++ (s ∷ ss)))) (into_at c.loop-self.invariant.on tt (is_here c.is_at.ensures.here c.if-is_at.true) (λ k. refl)) c.in_ok-step.ensures.parses);
    }

pub returns-in_err-test-clause-parses : goal.returns-in_err-test-clause-parses
returns-in_err-test-clause-parses c =
    part_stops (at c.test.new.self) c.from_residual-in_err-test.result c.in_err-test.field-0.0 (took (into_at c.loop-self.invariant.on tt (is_here c.is_at-else-is_at.ensures.here c.if-is_at-2.true) (λ k. refl)) (c.advance.ensures.took (Sign sign.DoubleColon) (is_here c.is_at-else-is_at.ensures.here c.if-is_at-2.true))) (err_from_is_err_and _ c.from_residual-in_err-test.ensures.1) c.in_err-test.ensures.parses

pub loop-self-preserved : goal.loop-self-preserved
loop-self-preserved c =
    record {
      same = c.loop-self.invariant.same;
      shorter = omega arith;
      on = turned (call (steps c.args.from)) c.loop-self.all _ c.in_ok-push-2.ensures.ok (past_mark (given (took (into_at c.loop-self.invariant.on tt (is_here c.is_at-else-is_at.ensures.here c.if-is_at-2.true) (λ k. refl)) (c.advance.ensures.took (Sign sign.DoubleColon) (is_here c.is_at-else-is_at.ensures.here c.if-is_at-2.true))) c.in_ok-test.ensures.parses));
    }

pub returns-else-is_at-2-clause-parses : goal.returns-else-is_at-2-clause-parses
returns-else-is_at-2-clause-parses c =
    gives_all (into c.loop-self.invariant.on tt (no_steps c.args.from (head (at c.loop-self.self)) (not_here c.is_at.ensures.here c.if-is_at.false) (not_here c.is_at-else-is_at.ensures.here c.if-is_at-2.false)))
