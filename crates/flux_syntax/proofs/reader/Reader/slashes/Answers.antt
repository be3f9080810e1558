use Rattle.std.proofs.Common.{refl, arith}
use Rattle.std.proofs.lemmas.Result.{err_from_is_err_and}
use Rattle.flux_grammar.specs.declared.lexeme.Lexeme.TheVariants.{Sign}
use Rattle.flux_grammar.specs.declared.lexeme.Sign.TheVariants as sign
use Rattle.flux_grammar.specs.Grammar.{slashes}
use Rattle.flux_grammar.specs.States.{head}
use Rattle.flux_grammar.specs.Machine.{call}
use Rattle.flux_syntax.specs.At.{at}
use Rattle.flux_syntax.proofs.Chosen.{is_here, not_here}
use Rattle.flux_syntax.proofs.Leads.{into, into_at, took, given, begun, turned, gives_all, part_stops}
use Rattle.flux_syntax.proofs.StatementChoices.{no_slashes}
use Rattle.flux_syntax.proofs.reader.Reader.slashes.Goals as goal

pub loop-self-init : goal.loop-self-init
loop-self-init c =
    record { same = refl; shorter = omega arith; on = begun (call (slashes c.args.depth)) c.new-all.ensures }

pub returns-in_err-next-clause-parses : goal.returns-in_err-next-clause-parses
returns-in_err-next-clause-parses c =
    part_stops (at c.step.new.self) c.from_residual.result c.in_err-next.field-0.0 (took (into_at c.loop-self.invariant.on tt (is_here c.is_at.ensures.here c.loop-self-test.true) (λ k. refl)) (c.advance.ensures.took (Sign sign.Slash) (is_here c.is_at.ensures.here c.loop-self-test.true))) (err_from_is_err_and _ c.from_residual.ensures.1) c.in_err-next.ensures.parses

pub loop-self-preserved : goal.loop-self-preserved
loop-self-preserved c =
    record {
      same = c.loop-self.invariant.same;
      shorter = omega arith;
      on = turned (call (slashes c.args.depth)) c.loop-self.all c.in_ok-next.next c.in_ok-push.ensures.ok (given (took (into_at c.loop-self.invariant.on tt (is_here c.is_at.ensures.here c.loop-self-test.true) (λ k. refl)) (c.advance.ensures.took (Sign sign.Slash) (is_here c.is_at.ensures.here c.loop-self-test.true))) c.in_ok-next.ensures.parses);
    }

pub returns-clause-parses : goal.returns-clause-parses
returns-clause-parses c =
    gives_all (into c.loop-self.invariant.on tt (no_slashes c.args.depth (head (at c.loop-self.self)) (not_here c.is_at.ensures.here c.loop-self-test.false)))
