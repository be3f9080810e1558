use Rattle.std.proofs.Common.{refl, arith}
use Rattle.flux_grammar.specs.declared.lexeme.Lexeme.TheVariants.{Sign}
use Rattle.flux_grammar.specs.Grammar.{mark_of, marks}
use Rattle.flux_grammar.specs.States.{head}
use Rattle.flux_grammar.specs.Machine.{call}
use Rattle.flux_syntax.specs.At.{at}
use Rattle.flux_syntax.proofs.Chosen.{mark_here, mark_sign, no_mark, next_mark_read}
use Rattle.flux_syntax.proofs.Leads.{into, into_at, took, begun, turned, gives_all}
use Rattle.flux_syntax.proofs.reader.Reader.marks.Goals as goal

pub loop-repetition-init : goal.loop-repetition-init
loop-repetition-init c =
    record { same = refl; shorter = omega arith; on = begun (call (marks c.args.from)) c.new-all.ensures }

pub loop-repetition-preserved : goal.loop-repetition-preserved
loop-repetition-preserved c =
    record {
      same = c.loop-repetition.invariant.same;
      shorter = omega arith;
      on = turned (call (marks c.args.from)) c.loop-repetition.all (mark_of c.in-Some.repetition c.args.from c.advance-to.result.to) c.in_ok-push.ensures.ok (took (into_at c.loop-repetition.invariant.on tt (mark_here (head (at c.loop-repetition.self)) c.in-Some.repetition c.in-Some.ensures.next) (next_mark_read c.args.from c.in-Some.repetition)) (c.advance-to.ensures.took (Sign (mark_sign c.in-Some.repetition)) (mark_here (head (at c.loop-repetition.self)) c.in-Some.repetition c.in-Some.ensures.next)));
    }

pub returns-clause-parses : goal.returns-clause-parses
returns-clause-parses c =
    gives_all (into c.loop-repetition.invariant.on tt (no_mark c.args.from (head (at c.loop-repetition.self)) c.in_default.ensures.next))
