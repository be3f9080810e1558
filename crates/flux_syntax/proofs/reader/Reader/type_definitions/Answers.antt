use Rattle.std.proofs.Common.{refl, arith}
use Rattle.std.proofs.lemmas.Result.{err_from_is_err_and}
use Rattle.flux_grammar.specs.Grammar.{typedefs}
use Rattle.flux_grammar.specs.States.{head}
use Rattle.flux_grammar.specs.Machine.{call}
use Rattle.flux_syntax.specs.At.{at}
use Rattle.flux_syntax.proofs.Chosen.{is_here, not_here}
use Rattle.flux_syntax.proofs.Leads.{into, into_at, given, begun, turned, gives_all, part_stops}
use Rattle.flux_syntax.proofs.StatementChoices.{no_typedefs}
use Rattle.flux_syntax.proofs.reader.Reader.type_definitions.Goals as goal

pub loop-self-init : goal.loop-self-init
loop-self-init c =
    record { shorter = omega arith; on = begun (call typedefs) c.new-all.ensures }

pub returns-in_err-next-clause-parses : goal.returns-in_err-next-clause-parses
returns-in_err-next-clause-parses c =
    part_stops (at c.type_definition.new.self) c.from_residual.result c.in_err-next.field-0.0 (into_at c.loop-self.invariant.on tt (is_here c.is_at_word.ensures.here c.loop-self-test.true) (λ k. refl)) (err_from_is_err_and _ c.from_residual.ensures.1) c.in_err-next.ensures.parses

pub loop-self-preserved : goal.loop-self-preserved
loop-self-preserved c =
    record {
      shorter = omega arith;
      on = turned (call typedefs) c.loop-self.all c.in_ok-next.next c.in_ok-push.ensures.ok (given (into_at c.loop-self.invariant.on tt (is_here c.is_at_word.ensures.here c.loop-self-test.true) (λ k. refl)) c.in_ok-next.ensures.parses);
    }

pub returns-clause-parses : goal.returns-clause-parses
returns-clause-parses c =
    gives_all (into c.loop-self.invariant.on tt (no_typedefs (head (at c.loop-self.self)) (not_here c.is_at_word.ensures.here c.loop-self-test.false)))
