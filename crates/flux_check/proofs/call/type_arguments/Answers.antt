use Rattle.std.proofs.Common.{inl, inr}
use Rattle.flux_check.proofs.CallLaws.{passing_end, passing_end_too}
use Rattle.flux_check.proofs.call.type_arguments.Goals as goal

pub returns-clause-answer : goal.returns-clause-answer
returns-clause-answer g c =
    let defs = g.D.Decider.definitions c.args.decider.now in
    let other = g.D.Decider.unnamed c.args.decider.now in
    let left = c.loop-param.param-iterator in
    let i = c.loop-param.invariant.passing in
    let x = c.in-None.ensures.steps in
    elim x [
      | inl a ↦ passing_end defs other c.args.gamma.now c.args.params.now c.args.args.now left.a.rest.now left.b.rest.now a.1.0 i
      | inr b ↦ passing_end_too defs other c.args.gamma.now c.args.params.now c.args.args.now left.a.rest.now left.b.rest.now b.1.0 i
    ]
