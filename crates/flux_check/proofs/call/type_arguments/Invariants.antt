use Rattle.flux_querytype.specs.Answers.{Leaves}
use Rattle.flux_check.proofs.CallLaws.{Passing}
use Rattle.flux_check.proofs.call.type_arguments.Given as goal

abbrev pub invariant-loop-param : goal.invariant-loop-param
invariant-loop-param g l = let D = g.D.Decider in record {
  left : Leaves D.definitions D.unnamed D.keeps D.known l.fn.decider l.decider l.fn.gamma l.gamma;
  passing : Passing (D.definitions l.fn.decider) (D.unnamed l.fn.decider) l.fn.gamma l.params l.args l.param-iterator.a.rest.now l.param-iterator.b.rest.now;
}
