use Rattle.std.proofs.Common.{refl}
use Rattle.flux_types.specs.Read.{ty_of}
use Rattle.flux_types.specs.Verdicts.{IsEvidence}
use Rattle.flux_query.specs.Read.{query_of}
use Rattle.flux_calculus.specs.Typing.{Types, of_query}
use Rattle.flux_schema.specs.Member.{Included}
use Rattle.flux_core.specs.Statements.{param_of}
use Rattle.flux_querytype.proofs.Left.{left_by_both}
use Rattle.flux_check.specs.Answers.{InAnyCall}
use Rattle.flux_check.proofs.Scenes.{as_before, passed_by, against, agreed}
use Rattle.flux_check.proofs.CallLaws.{argument_faulty, argument_passed, argument_shown}
use Rattle.flux_check.proofs.call.type_argument.Goals as goal

pub returns-in_err-found-clause-fault : goal.returns-in_err-found-clause-fault
returns-in_err-found-clause-fault g c =
    let defs = g.D.Decider.definitions c.args.decider.now in
    let other = g.D.Decider.unnamed c.args.decider.now in
    let q = query_of c.args.arg.now in
    let p = param_of c.args.param.now in
    passed_by (IsEvidence defs other) (Types defs (of_query c.args.gamma.now q)) (InAnyCall defs c.args.gamma.now p q) c.in_err-found.field-0.0 c.from_residual.result (λ f d. argument_faulty defs other c.args.gamma.now p q f d) c.in_err-found.ensures.fault c.from_residual.ensures.1

pub returns-in_err-compare-clause-left : goal.returns-in_err-compare-clause-left
returns-in_err-compare-clause-left g c = left_by_both c.in_ok-found.ensures.left (c.in_err-compare.ensures.left _)

pub returns-in-Yes-clause-left : goal.returns-in-Yes-clause-left
returns-in-Yes-clause-left g c = left_by_both c.in_ok-found.ensures.left (c.in_ok-compare.ensures.left _)

pub returns-clause-left : goal.returns-clause-left
returns-clause-left g c = left_by_both c.in_ok-found.ensures.left (c.in_ok-compare.ensures.left _)

pub returns-in-Yes-clause-answer : goal.returns-in-Yes-clause-answer
returns-in-Yes-clause-answer g c =
    let D = g.D.Decider in
    let t = ty_of c.in_ok-found.found in
    let u = ty_of c.args.param.now.ty in
    let fits = agreed _ _ t u t u c.in_ok-compare.field-0 refl refl c.in-Yes.is c.in_ok-compare.ensures.verdict in
    argument_passed (D.definitions c.args.decider.now) (D.unnamed c.args.decider.now) c.args.gamma.now (param_of c.args.param.now) (query_of c.args.arg.now) t c.in_ok-found.ensures.typed
    (as_before (λ e n G. Included e t u) c.in_ok-found.ensures.left fits)

pub returns-clause-fault : goal.returns-clause-fault
returns-clause-fault g c =
    let D = g.D.Decider in
    let t = ty_of c.in_ok-found.found in
    let u = ty_of c.args.param.now.ty in
    let shown = against _ _ t u t u c.in_ok-compare.field-0 c.in-No.shown refl refl c.in-No.is c.in_ok-compare.ensures.verdict in
    argument_shown (D.definitions c.args.decider.now) (D.unnamed c.args.decider.now) c.args.gamma.now (param_of c.args.param.now) (query_of c.args.arg.now) t c.place.result c.in-No.shown c.in_ok-found.ensures.typed c.place.ensures
    (as_before (λ e n G. IsEvidence e n t u c.in-No.shown) c.in_ok-found.ensures.left shown)
