use Rattle.std.proofs.Common.{refl, ap}
use Rattle.flux_schema.specs.Ty.{empty}
use Rattle.flux_types.specs.declared.ty.Ty.TheVariants.{Empty}
use Rattle.flux_types.specs.Read.{ty_of}
use Rattle.flux_types.specs.Verdicts.{IsEvidence}
use Rattle.flux_types.proofs.Variants.{of_empty}
use Rattle.flux_query.specs.Read.{query_of}
use Rattle.flux_calculus.specs.Typing.{Types, of_query, typed}
use Rattle.flux_calculus.specs.Core.{insert}
use Rattle.flux_core.specs.Faults.{AreUsable}
use Rattle.flux_core.proofs.Replies.{passed_on}
use Rattle.flux_querytype.specs.Answers.{QueryLacks, ContextLacks, IsQueryFault}
use Rattle.flux_querytype.proofs.Left.{left_by_both}
use Rattle.flux_check.specs.Answers.{Comes}
use Rattle.flux_check.specs.Ones.{measured_type}
use Rattle.flux_check.proofs.Scenes.{as_before, as_behind, against, agreed}
use Rattle.flux_check.proofs.Rules.{inserted}
use Rattle.flux_check.proofs.LeafLaws.{insertion_shown, typed_as}
use Rattle.flux_check.proofs.leaf.type_insertion.Goals as goal

pub returns-in_err-shown-clause-left : goal.returns-in_err-shown-clause-left
returns-in_err-shown-clause-left g c = c.in_err-shown.ensures.left _

pub returns-in-No-clause-answer : goal.returns-in-No-clause-answer
returns-in-No-clause-answer g c = λ procs.
    let D = g.D.Decider in
    let defs = D.definitions c.args.decider.now in
    let other = D.unnamed c.args.decider.now in
    let shown = against defs other (ty_of c.as_ref.result.now) _ (measured_type c.args.focus.now) empty c.in_ok-shown.field-0 c.in-No.shown (ap ty_of c.as_ref.ensures) (of_empty Empty refl) c.in-No.is c.in_ok-shown.ensures.verdict in
    insertion_shown defs other c.args.gamma.now procs (measured_type c.args.focus.now) c.args.span (query_of c.args.query.now) c.in-No.shown shown

pub returns-in-No-clause-left : goal.returns-in-No-clause-left
returns-in-No-clause-left g c = c.in_ok-shown.ensures.left _

pub type_query-requires-clause-usable : goal.type_query-requires-clause-usable
type_query-requires-clause-usable g c = as_behind (λ e n G. AreUsable e G) (c.in_ok-shown.ensures.left _) c.requires.ready.usable

pub type_query-requires-clause-gamma_lacks : goal.type_query-requires-clause-gamma_lacks
type_query-requires-clause-gamma_lacks g c = as_behind (λ e n G. ContextLacks n G) (c.in_ok-shown.ensures.left _) c.requires.ready.gamma

pub type_query-requires-clause-query_lacks : goal.type_query-requires-clause-query_lacks
type_query-requires-clause-query_lacks g c = as_behind (λ e n G. QueryLacks n (query_of c.args.query.now)) (c.in_ok-shown.ensures.left c.args.gamma.now) c.requires.query_lacks

pub returns-in_err-ty-clause-answer : goal.returns-in_err-ty-clause-answer
returns-in_err-ty-clause-answer g c = λ procs.
    let D = g.D.Decider in
    let defs = D.definitions c.args.decider.now in
    let other = D.unnamed c.args.decider.now in
    let t = measured_type c.args.focus.now in
    let q = query_of c.args.query.now in
    let empty_focus = agreed defs other (ty_of c.as_ref.result.now) _ t empty c.in_ok-shown.field-0 (ap ty_of c.as_ref.ensures) (of_empty Empty refl) c.in_default.is c.in_ok-shown.ensures.verdict in
    let fault = as_before (λ e n G. IsQueryFault e n G q c.in_err-ty.field-0.0) (c.in_ok-shown.ensures.left c.args.gamma.now) c.in_err-ty.ensures.fault in
    passed_on (IsEvidence defs other) (Types defs (of_query c.args.gamma.now q)) (Comes procs defs c.args.gamma.now t (insert c.args.span q)) c.in_err-ty.field-0.0 c.from_residual-in_err-ty.result (λ f d. inserted empty_focus d) fault c.from_residual-in_err-ty.ensures.1

pub returns-in_err-ty-clause-left : goal.returns-in_err-ty-clause-left
returns-in_err-ty-clause-left g c = left_by_both (c.in_ok-shown.ensures.left _) c.in_err-ty.ensures.left

pub returns-in_err-measure-clause-left : goal.returns-in_err-measure-clause-left
returns-in_err-measure-clause-left g c = left_by_both (c.in_ok-shown.ensures.left _) c.in_ok-ty.ensures.left

pub returns-clause-answer : goal.returns-clause-answer
returns-clause-answer g c = λ procs.
    let D = g.D.Decider in
    let defs = D.definitions c.args.decider.now in
    let other = D.unnamed c.args.decider.now in
    let t = measured_type c.args.focus.now in
    let q = query_of c.args.query.now in
    let empty_focus = agreed defs other (ty_of c.as_ref.result.now) _ t empty c.in_ok-shown.field-0 (ap ty_of c.as_ref.ensures) (of_empty Empty refl) c.in_default.is c.in_ok-shown.ensures.verdict in
    let value = as_before (λ e n G. Types e (of_query G q) (typed (ty_of c.in_ok-ty.ty))) (c.in_ok-shown.ensures.left c.args.gamma.now) c.in_ok-ty.ensures.typed in
    inserted {o = typed (measured_type c.in_ok-measure.field-0)} empty_focus (typed_as defs c.args.gamma.now q (ty_of c.in_ok-ty.ty) (measured_type c.in_ok-measure.field-0) (ap ty_of c.in_ok-measure.ensures) value)

pub returns-clause-left : goal.returns-clause-left
returns-clause-left g c = left_by_both (c.in_ok-shown.ensures.left _) c.in_ok-ty.ensures.left
