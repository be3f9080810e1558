use Rattle.std.proofs.Common.{rules, arith, refl, ap, subst, ◌≡◌, ◌∙◌, ◌∷◌, Ok}
use Rattle.flux_schema.specs.Ty.{element}
use Rattle.flux_types.specs.Read.{ty_of}
use Rattle.flux_types.specs.Verdicts.{IsEvidence}
use Rattle.flux_calculus.specs.Typing.{typed, content_type}
use Rattle.flux_typing.specs.Labels.{CoreLacks}
use Rattle.flux_query.specs.Read.{query_of}
use Rattle.flux_core.specs.Faults.{IsFault, IsUsable}
use Rattle.flux_core.specs.Answers.{IsAnswer}
use Rattle.flux_core.specs.Statements.{core_of, procs_of}
use Rattle.flux_core.specs.WellFormed.{CallsFit}
use Rattle.flux_core.specs.Walk.{before, behind, frames_in}
use Rattle.flux_core.proofs.Variants.{of_skip as is_skip, of_seq as is_seq, of_insert as is_insert, of_delete as is_delete, of_rename as is_rename, of_iter as is_iter, of_call as is_call}
use Rattle.flux_core.proofs.TurnLaws.{first_leads, first_fault, next_leads, next_fault, tree_fault, turn_at, turn_over, turn_less}
use Rattle.flux_core.proofs.WalkLabels.{turn_labels, labels_at, labels_before}
use Rattle.flux_schema.specs.Labels.{Lacks}
use Rattle.flux_querytype.proofs.Left.{left_by_both}
use Rattle.flux_querytype.proofs.MapLaws.{waiting_as}
use Rattle.flux_check.specs.declared.one.Passing.TheVariants.{All, Nothing, Labelled}
use Rattle.flux_check.specs.Answers.{Comes, IsStage}
use Rattle.flux_check.specs.Ones.{measured_type}
use Rattle.flux_check.proofs.Scenes.{as_before, as_behind}
use Rattle.flux_check.proofs.Rules.{test_many, children_many}
use Rattle.flux_check.proofs.Stages.{stage_at, stage_same, stage_bound, stage_one, stage_content, stage_labelled}
use Rattle.flux_check.proofs.Sequences.{going_all, going_next, going_more, going_fault, going_end, next_of, weight_next}
use Rattle.flux_check.proofs.Weights.{weights_below}
use Rattle.flux_check.proofs.Maps.{AtTree, map_typed, map_answer}
use Rattle.flux_check.proofs.Parts.{listed_as, stood_none, stood_some, told, opened_some, answer_at, answer_of, fault_of, skipped, deleted, iterated, choice_condition, choice_yes, choice_no, choice_answer, binding_fault, binding_answer, snapshot_answer, test_all_answer, test_none_answer, test_some_fault, test_some_answer, children_none, children_fault, children_answer, left_fault, left_answer, right_fault, right_answer, renaming_answer, arguments_lack}
use Rattle.flux_check.proofs.statement.+typing.Goals as goal

pub type_core-type_all-requires : goal.type_core-type_all-requires
type_core-type_all-requires g t c κs within =
    let D = g.D.Decider in
    let defs = D.definitions c.args.decider.now in
    let other = D.unnamed c.args.decider.now in
    let procs = procs_of c.args.procs.now in
    let Γ = c.args.gamma.now in
    let S = IsEvidence defs other in
    let t0 = measured_type c.args.focus in
    let is = is_seq c.args.core.now c.in-Seq.statements c.in-Seq.span c.in-Seq.is in
    let fewer = weights_below (core_of c.args.core.now) c.in-Seq.span c.in-Seq.statements c.as_slice.result.now is c.as_slice.ensures in
    let lacks = listed_as (λ s. CoreLacks other s) (core_of c.args.core.now) c.in-Seq.span c.in-Seq.statements c.as_slice.result.now is c.as_slice.ensures c.requires.core_lacks in
    let calls = listed_as (λ s. CallsFit procs s) (core_of c.args.core.now) c.in-Seq.span c.in-Seq.statements c.as_slice.result.now is c.as_slice.ensures c.requires.calls in
    (omega (arith, c.decreases, fewer), (search rules, (c.requires.stage, (lacks, calls))))

pub type_core-type_call-requires-clause-args_lack : goal.type_core-type_call-requires-clause-args_lack
type_core-type_call-requires-clause-args_lack g t c = arguments_lack (g.D.Decider.unnamed c.args.decider.now) (core_of c.args.core.now) c.in-Call.proc c.in-Call.args c.as_slice-in-Call.result.now c.in-Call.span (is_call c.args.core.now c.in-Call.proc c.in-Call.args c.in-Call.span c.in-Call.is) c.as_slice-in-Call.ensures c.requires.core_lacks

pub type_core-returns-in-Skip-clause-answer : goal.type_core-returns-in-Skip-clause-answer
type_core-returns-in-Skip-clause-answer g t c =
    let D = g.D.Decider in
    let defs = D.definitions c.args.decider.now in
    let other = D.unnamed c.args.decider.now in
    let procs = procs_of c.args.procs.now in
    let Γ = c.args.gamma.now in
    let S = IsEvidence defs other in
    let t0 = measured_type c.args.focus in
    skipped S procs defs Γ t0 (core_of c.args.core.now) c.in-Skip.field-0 (is_skip c.args.core.now c.in-Skip.field-0 c.in-Skip.is)

pub type_core-returns-in-Insert-clause-answer : goal.type_core-returns-in-Insert-clause-answer
type_core-returns-in-Insert-clause-answer g t c =
    let D = g.D.Decider in
    let defs = D.definitions c.args.decider.now in
    let other = D.unnamed c.args.decider.now in
    let procs = procs_of c.args.procs.now in
    let Γ = c.args.gamma.now in
    let S = IsEvidence defs other in
    let t0 = measured_type c.args.focus in
    answer_at S procs defs Γ t0 (core_of c.args.core.now) _ c.type_insertion.result (is_insert c.args.core.now c.in-Insert.query c.in-Insert.span c.in-Insert.is) (c.type_insertion.ensures.answer procs)

pub type_core-returns-in_ok-nothing-in-Delete-clause-answer : goal.type_core-returns-in_ok-nothing-in-Delete-clause-answer
type_core-returns-in_ok-nothing-in-Delete-clause-answer g t c =
    let D = g.D.Decider in
    let defs = D.definitions c.args.decider.now in
    let other = D.unnamed c.args.decider.now in
    let procs = procs_of c.args.procs.now in
    let Γ = c.args.gamma.now in
    let S = IsEvidence defs other in
    let t0 = measured_type c.args.focus in
    deleted S procs defs Γ t0 (measured_type c.in_ok-nothing-in-Delete.field-0) (core_of c.args.core.now) c.in-Delete.field-0 (is_delete c.args.core.now c.in-Delete.field-0 c.in-Delete.is) c.in_ok-nothing-in-Delete.ensures

pub type_core-returns-in-Rename-clause-answer : goal.type_core-returns-in-Rename-clause-answer
type_core-returns-in-Rename-clause-answer g t c =
    let D = g.D.Decider in
    let defs = D.definitions c.args.decider.now in
    let other = D.unnamed c.args.decider.now in
    let procs = procs_of c.args.procs.now in
    let Γ = c.args.gamma.now in
    let S = IsEvidence defs other in
    let t0 = measured_type c.args.focus in
    renaming_answer S procs defs c.defs.result.now Γ t0 (core_of c.args.core.now) c.in-Rename.span c.in-Rename.label c.type_renaming.result (is_rename c.args.core.now c.in-Rename.label c.in-Rename.span c.in-Rename.is) c.defs.ensures.value (c.type_renaming.ensures procs Γ)

pub type_core-returns-in_ok-trees-in-Iter-clause-answer : goal.type_core-returns-in_ok-trees-in-Iter-clause-answer
type_core-returns-in_ok-trees-in-Iter-clause-answer g t c =
    let D = g.D.Decider in
    let defs = D.definitions c.args.decider.now in
    let other = D.unnamed c.args.decider.now in
    let procs = procs_of c.args.procs.now in
    let Γ = c.args.gamma.now in
    let S = IsEvidence defs other in
    let t0 = measured_type c.args.focus in
    iterated S procs defs Γ t0 (ty_of c.in_ok-trees-in-Iter.trees) (core_of c.args.core.now) _ c.in-Iter.span c.type_trees.result (is_iter c.args.core.now c.in-Iter.body c.get-in-Iter.result.now c.in-Iter.span c.in-Iter.is c.get-in-Iter.ensures) (ap ty_of c.in_ok-trees-in-Iter.ensures) c.type_trees.ensures.answer

pub type_all-loop-statement-init : goal.type_all-loop-statement-init
type_all-loop-statement-init g t c =
    let D = g.D.Decider in
    let defs = D.definitions c.args.decider.now in
    let other = D.unnamed c.args.decider.now in
    let procs = procs_of c.args.procs.now in
    let Γ = c.args.gamma.now in
    let S = IsEvidence defs other in
    let t0 = measured_type c.args.focus in
    let all = c.args.statements.now in
    let at = c.args.span in
    record {
      left = record { definitions = refl; other = refl; keeps = refl; still = λ p h. h; gamma = refl };
      going = going_all defs other Γ procs t0 at all c.requires.stage c.requires.core_lacks c.requires.calls;
    }

pub type_all-type_core-requires : goal.type_all-type_core-requires
type_all-type_core-requires g t c κs within =
    let D = g.D.Decider in
    let defs = D.definitions c.args.decider.now in
    let other = D.unnamed c.args.decider.now in
    let procs = procs_of c.args.procs.now in
    let Γ = c.args.gamma.now in
    let S = IsEvidence defs other in
    let t0 = measured_type c.args.focus in
    let all = c.args.statements.now in
    let at = c.args.span in
    let i = c.loop-statement.invariant in
    let at_i = c.loop-statement.statement-index in
    let s = c.statement-item.result in
    let next = next_of all at_i s c.loop-statement-test.true c.statement-item.is in
    let u = measured_type c.loop-statement.made in
    let k = going_next defs other Γ procs t0 at all _ _ s u next i.going in
    let stage = as_behind (λ e n G. IsStage e n G procs u) i.left k.stage in
    let lacks = as_behind (λ e n G. CoreLacks n (core_of s)) i.left k.lacks.0 in
    (omega (arith, c.decreases, weight_next all _ _ s next i.going.fewer), (search rules, (stage, (lacks, k.calls.0))))

pub type_all-returns-in_err-made-clause-answer : goal.type_all-returns-in_err-made-clause-answer
type_all-returns-in_err-made-clause-answer g t c =
    let D = g.D.Decider in
    let defs = D.definitions c.args.decider.now in
    let other = D.unnamed c.args.decider.now in
    let procs = procs_of c.args.procs.now in
    let Γ = c.args.gamma.now in
    let S = IsEvidence defs other in
    let t0 = measured_type c.args.focus in
    let all = c.args.statements.now in
    let at = c.args.span in
    let i = c.loop-statement.invariant in
    let at_i = c.loop-statement.statement-index in
    let s = c.statement-item.result in
    let next = next_of all at_i s c.loop-statement-test.true c.statement-item.is in
    let u = measured_type c.loop-statement.made in
    going_fault defs other Γ procs t0 at all _ _ s u c.in_err-made.field-0.0 c.from_residual.result next i.going (as_before (λ e n G. IsFault (IsEvidence e n) (Comes procs e G u (core_of s)) c.in_err-made.field-0.0) i.left c.in_err-made.ensures.answer) c.from_residual.ensures.1

pub type_all-returns-in_err-made-clause-left : goal.type_all-returns-in_err-made-clause-left
type_all-returns-in_err-made-clause-left g t c = left_by_both c.loop-statement.invariant.left c.in_err-made.ensures.left

pub type_all-loop-statement-preserved : goal.type_all-loop-statement-preserved
type_all-loop-statement-preserved g t c =
    let D = g.D.Decider in
    let defs = D.definitions c.args.decider.now in
    let other = D.unnamed c.args.decider.now in
    let procs = procs_of c.args.procs.now in
    let Γ = c.args.gamma.now in
    let S = IsEvidence defs other in
    let t0 = measured_type c.args.focus in
    let all = c.args.statements.now in
    let at = c.args.span in
    let i = c.loop-statement.invariant in
    let at_i = c.loop-statement.statement-index in
    let s = c.statement-item.result in
    let next = next_of all at_i s c.loop-statement-test.true c.statement-item.is in
    let u = measured_type c.loop-statement.made in
    let d = as_before (λ e n G. Comes procs e G u (core_of s) (typed (measured_type c.in_ok-made.made))) i.left c.in_ok-made.ensures.answer in
    record {
      left = left_by_both i.left c.in_ok-made.ensures.left;
      going = going_more defs other Γ procs t0 at all _ _ s u (measured_type c.in_ok-made.made) next i.going d c.in_ok-made.made.limits;
    }

pub type_all-returns-clause-answer : goal.type_all-returns-clause-answer
type_all-returns-clause-answer g t c =
    let D = g.D.Decider in
    let defs = D.definitions c.args.decider.now in
    let other = D.unnamed c.args.decider.now in
    let procs = procs_of c.args.procs.now in
    let Γ = c.args.gamma.now in
    let S = IsEvidence defs other in
    let t0 = measured_type c.args.focus in
    let all = c.args.statements.now in
    let at = c.args.span in
    going_end defs other Γ procs t0 at all c.loop-statement.statement-index (measured_type c.loop-statement.made) c.loop-statement-test.false c.loop-statement.invariant.going

pub type_all-returns-clause-left : goal.type_all-returns-clause-left
type_all-returns-clause-left g t c = c.loop-statement.invariant.left

pub type_choice-returns-in_err-type_condition-clause-answer : goal.type_choice-returns-in_err-type_condition-clause-answer
type_choice-returns-in_err-type_condition-clause-answer g t c =
    let D = g.D.Decider in
    let defs = D.definitions c.args.decider.now in
    let other = D.unnamed c.args.decider.now in
    let procs = procs_of c.args.procs.now in
    let Γ = c.args.gamma.now in
    let S = IsEvidence defs other in
    let t0 = measured_type c.args.focus in
    let k = c.args.parts.now in
    let q = query_of k.condition.now in
    let y = core_of k.yes.now in
    let z = core_of k.no.now in
    choice_condition S procs defs Γ t0 k.span q y z c.in_err-type_condition.field-0.0 c.from_residual.result (c.in_err-type_condition.ensures.fault procs t0) c.from_residual.ensures.1

pub type_choice-returns-in_err-yes-clause-answer : goal.type_choice-returns-in_err-yes-clause-answer
type_choice-returns-in_err-yes-clause-answer g t c =
    let D = g.D.Decider in
    let defs = D.definitions c.args.decider.now in
    let other = D.unnamed c.args.decider.now in
    let procs = procs_of c.args.procs.now in
    let Γ = c.args.gamma.now in
    let S = IsEvidence defs other in
    let t0 = measured_type c.args.focus in
    let k = c.args.parts.now in
    let q = query_of k.condition.now in
    let y = core_of k.yes.now in
    let z = core_of k.no.now in
    let one = c.in_ok-type_condition.ensures in
    let x = c.in_err-yes.field-0.0 in
    let fault = as_before (λ e n G. IsFault (IsEvidence e n) (Comes procs e G (measured_type c.in_ok-shared.shared) y) x) one.left c.in_err-yes.ensures.answer in
    choice_yes S procs defs Γ t0 k.span q y z x c.from_residual-in_err-yes.result one.answer (fault_of S procs defs Γ t0 (measured_type c.in_ok-shared.shared) y x (ap ty_of c.in_ok-shared.ensures) fault) c.from_residual-in_err-yes.ensures.1

pub type_choice-returns-in_err-no-clause-answer : goal.type_choice-returns-in_err-no-clause-answer
type_choice-returns-in_err-no-clause-answer g t c =
    let D = g.D.Decider in
    let defs = D.definitions c.args.decider.now in
    let other = D.unnamed c.args.decider.now in
    let procs = procs_of c.args.procs.now in
    let Γ = c.args.gamma.now in
    let S = IsEvidence defs other in
    let t0 = measured_type c.args.focus in
    let k = c.args.parts.now in
    let q = query_of k.condition.now in
    let y = core_of k.yes.now in
    let z = core_of k.no.now in
    let one = c.in_ok-type_condition.ensures in
    let two = c.in_ok-yes.ensures in
    let u = measured_type c.in_ok-yes.yes in
    let same = ap ty_of c.in_ok-shared.ensures in
    let yes = as_before (λ e n G. IsAnswer (IsEvidence e n) (Comes procs e G (measured_type c.in_ok-shared.shared) y) (Ok c.in_ok-yes.yes)) one.left two.answer in
    let d = answer_of S procs defs Γ t0 (measured_type c.in_ok-shared.shared) y (Ok c.in_ok-yes.yes) same yes in
    let x = c.in_err-no.field-0.0 in
    let fault = as_before (λ e n G. IsFault (IsEvidence e n) (Comes procs e G t0 z) x) (left_by_both one.left two.left) c.in_err-no.ensures.answer in
    choice_no S procs defs Γ t0 k.span q y z u x c.from_residual-in_err-no.result one.answer d fault c.from_residual-in_err-no.ensures.1

pub type_choice-returns-in_err-no-clause-left : goal.type_choice-returns-in_err-no-clause-left
type_choice-returns-in_err-no-clause-left g t c = left_by_both (left_by_both c.in_ok-type_condition.ensures.left c.in_ok-yes.ensures.left) c.in_err-no.ensures.left

pub type_choice-returns-clause-answer : goal.type_choice-returns-clause-answer
type_choice-returns-clause-answer g t c =
    let D = g.D.Decider in
    let defs = D.definitions c.args.decider.now in
    let other = D.unnamed c.args.decider.now in
    let procs = procs_of c.args.procs.now in
    let Γ = c.args.gamma.now in
    let S = IsEvidence defs other in
    let t0 = measured_type c.args.focus in
    let k = c.args.parts.now in
    let q = query_of k.condition.now in
    let y = core_of k.yes.now in
    let z = core_of k.no.now in
    let one = c.in_ok-type_condition.ensures in
    let two = c.in_ok-yes.ensures in
    let u = measured_type c.in_ok-yes.yes in
    let same = ap ty_of c.in_ok-shared.ensures in
    let yes = as_before (λ e n G. IsAnswer (IsEvidence e n) (Comes procs e G (measured_type c.in_ok-shared.shared) y) (Ok c.in_ok-yes.yes)) one.left two.answer in
    let d = answer_of S procs defs Γ t0 (measured_type c.in_ok-shared.shared) y (Ok c.in_ok-yes.yes) same yes in
    let no = as_before (λ e n G. Comes procs e G t0 z (typed (measured_type c.in_ok-no.no))) (left_by_both one.left two.left) c.in_ok-no.ensures.answer in
    choice_answer S procs defs Γ t0 k.span q y z u (measured_type c.in_ok-no.no) c.either.result one.answer d no c.either.ensures

pub type_choice-returns-clause-left : goal.type_choice-returns-clause-left
type_choice-returns-clause-left g t c = left_by_both (left_by_both c.in_ok-type_condition.ensures.left c.in_ok-yes.ensures.left) c.in_ok-no.ensures.left

pub type_binding-returns-in_err-ty-clause-answer : goal.type_binding-returns-in_err-ty-clause-answer
type_binding-returns-in_err-ty-clause-answer g t c =
    let D = g.D.Decider in
    let defs = D.definitions c.args.decider.now in
    let other = D.unnamed c.args.decider.now in
    let procs = procs_of c.args.procs.now in
    let Γ = c.args.gamma.now in
    let S = IsEvidence defs other in
    let t0 = measured_type c.args.focus in
    let k = c.args.bound.now in
    let q = query_of k.query.now in
    let s = core_of k.body.now in
    binding_fault S procs defs Γ t0 k.span k.var q s c.in_err-ty.field-0.0 c.from_residual.result c.in_err-ty.ensures.fault c.from_residual.ensures.1

pub type_binding-type_core-outcome-requires : goal.type_binding-type_core-outcome-requires
type_binding-type_core-outcome-requires g t c κs within =
    let D = g.D.Decider in
    let defs = D.definitions c.args.decider.now in
    let other = D.unnamed c.args.decider.now in
    let procs = procs_of c.args.procs.now in
    let Γ = c.args.gamma.now in
    let S = IsEvidence defs other in
    let t0 = measured_type c.args.focus in
    let k = c.args.bound.now in
    let q = query_of k.query.now in
    let s = core_of k.body.now in
    let one = c.in_ok-ty.ensures in
    let u = ty_of c.in_ok-ty.ty in
    let stage = as_behind (λ e n G. IsStage e n G procs t0) one.left c.requires.stage in
    let usable = as_behind (λ e n G. IsUsable e u) one.left one.usable in
    let lacking = as_behind (λ e n G. Lacks n u) one.left one.lacks in
    let lacks = as_behind (λ e n G. CoreLacks n s) one.left c.requires.body_lacks in
    (omega (arith, c.decreases), (search rules, (stage_bound t0 _ k.var u c.in_ok-bind.ensures.ok usable lacking stage, (lacks, c.requires.body_calls))))

pub type_binding-returns-clause-answer : goal.type_binding-returns-clause-answer
type_binding-returns-clause-answer g t c =
    let D = g.D.Decider in
    let defs = D.definitions c.args.decider.now in
    let other = D.unnamed c.args.decider.now in
    let procs = procs_of c.args.procs.now in
    let Γ = c.args.gamma.now in
    let S = IsEvidence defs other in
    let t0 = measured_type c.args.focus in
    let k = c.args.bound.now in
    let q = query_of k.query.now in
    let s = core_of k.body.now in
    let one = c.in_ok-ty.ensures in
    let u = ty_of c.in_ok-ty.ty in
    let r = c.type_core-outcome.result in
    let at_bound = subst (λ G. IsAnswer (IsEvidence (D.definitions c.type_query.new.decider) (D.unnamed c.type_query.new.decider)) (Comes procs (D.definitions c.type_query.new.decider) G t0 s) r) c.in_ok-bind.ensures.ok c.type_core-outcome.ensures.answer in
    binding_answer S procs defs Γ t0 u k.span k.var q s r one.typed (as_before (λ e n G. IsAnswer (IsEvidence e n) (Comes procs e ((k.var, u) ∷ G) t0 s) r) one.left at_bound)

pub type_snapshot-type_core-outcome-requires : goal.type_snapshot-type_core-outcome-requires
type_snapshot-type_core-outcome-requires g t c κs within =
    let D = g.D.Decider in
    let defs = D.definitions c.args.decider.now in
    let other = D.unnamed c.args.decider.now in
    let procs = procs_of c.args.procs.now in
    let Γ = c.args.gamma.now in
    let S = IsEvidence defs other in
    let t0 = measured_type c.args.focus in
    let k = c.args.part.now in
    let s = core_of k.body.now in
    (omega (arith, c.decreases), (search rules, (stage_bound t0 _ c.args.var.now t0 c.in_ok-bind_shared.ensures.ok c.requires.stage.usable c.requires.stage.lacks c.requires.stage, (c.requires.body_lacks, c.requires.body_calls))))

pub type_snapshot-returns-clause-answer : goal.type_snapshot-returns-clause-answer
type_snapshot-returns-clause-answer g t c =
    let D = g.D.Decider in
    let defs = D.definitions c.args.decider.now in
    let other = D.unnamed c.args.decider.now in
    let procs = procs_of c.args.procs.now in
    let Γ = c.args.gamma.now in
    let S = IsEvidence defs other in
    let t0 = measured_type c.args.focus in
    let k = c.args.part.now in
    let s = core_of k.body.now in
    snapshot_answer S procs defs Γ t0 _ k.span c.args.var.now s c.type_core-outcome.result c.in_ok-bind_shared.ensures.ok c.type_core-outcome.ensures.answer

pub type_test-returns-in_default-clause-answer : goal.type_test-returns-in_default-clause-answer
type_test-returns-in_default-clause-answer g t c =
    let D = g.D.Decider in
    let defs = D.definitions c.args.decider.now in
    let other = D.unnamed c.args.decider.now in
    let procs = procs_of c.args.procs.now in
    let Γ = c.args.gamma.now in
    let S = IsEvidence defs other in
    let t0 = measured_type c.args.focus in
    let k = c.args.tested.now in
    let s = core_of k.body.now in
    test_many (stood_none defs c.defs.result.now t0 c.in_ok-one.field-0 c.defs.ensures.value c.in_ok-one.ensures c.in_default.is)

pub type_test-type_core-requires : goal.type_test-type_core-requires
type_test-type_core-requires g t c κs within =
    let D = g.D.Decider in
    let defs = D.definitions c.args.decider.now in
    let other = D.unnamed c.args.decider.now in
    let procs = procs_of c.args.procs.now in
    let Γ = c.args.gamma.now in
    let S = IsEvidence defs other in
    let t0 = measured_type c.args.focus in
    let k = c.args.tested.now in
    let s = core_of k.body.now in
    let m = c.in-Some.one in
    let a = measured_type m in
    let h = stood_some defs c.defs.result.now t0 c.in_ok-one.field-0 m c.defs.ensures.value c.in_ok-one.ensures c.in-Some.is in
    (omega (arith, c.decreases), (search rules, (stage_one t0 a h c.requires.stage, (c.requires.body_lacks, c.requires.body_calls))))

pub type_test-type_core-requires-in-Labelled : goal.type_test-type_core-requires-in-Labelled
type_test-type_core-requires-in-Labelled g t c κs within =
    let D = g.D.Decider in
    let defs = D.definitions c.args.decider.now in
    let other = D.unnamed c.args.decider.now in
    let procs = procs_of c.args.procs.now in
    let Γ = c.args.gamma.now in
    let S = IsEvidence defs other in
    let t0 = measured_type c.args.focus in
    let k = c.args.tested.now in
    let s = core_of k.body.now in
    let m = c.in-Some.one in
    let a = measured_type m in
    let h = stood_some defs c.defs.result.now t0 c.in_ok-one.field-0 m c.defs.ensures.value c.in_ok-one.ensures c.in-Some.is in
    let n = c.in-Labelled.label in
    let v = told k.test c.as_ref.result.now m.ty.value c.passing_trees.result (Labelled n) c.as_ref.ensures c.passing_trees.ensures c.in-Labelled.is in
    let w = measured_type c.in_ok-labelled-in-Labelled.labelled in
    let is = c.in_ok-labelled-in-Labelled.ensures ∙ ap (λ x. element n (content_type (ty_of x))) c.as_ref-in-Labelled.ensures in
    (omega (arith, c.decreases), (search rules, (stage_labelled k.test a n w c.requires.test_lacks v is (stage_one t0 a h c.requires.stage), (c.requires.body_lacks, c.requires.body_calls))))

pub type_test-returns-in_err-made-in-Labelled-clause-answer : goal.type_test-returns-in_err-made-in-Labelled-clause-answer
type_test-returns-in_err-made-in-Labelled-clause-answer g t c =
    let D = g.D.Decider in
    let defs = D.definitions c.args.decider.now in
    let other = D.unnamed c.args.decider.now in
    let procs = procs_of c.args.procs.now in
    let Γ = c.args.gamma.now in
    let S = IsEvidence defs other in
    let t0 = measured_type c.args.focus in
    let k = c.args.tested.now in
    let s = core_of k.body.now in
    let m = c.in-Some.one in
    let a = measured_type m in
    let h = stood_some defs c.defs.result.now t0 c.in_ok-one.field-0 m c.defs.ensures.value c.in_ok-one.ensures c.in-Some.is in
    let n = c.in-Labelled.label in
    let v = told k.test c.as_ref.result.now m.ty.value c.passing_trees.result (Labelled n) c.as_ref.ensures c.passing_trees.ensures c.in-Labelled.is in
    let w = measured_type c.in_ok-labelled-in-Labelled.labelled in
    let is = c.in_ok-labelled-in-Labelled.ensures ∙ ap (λ x. element n (content_type (ty_of x))) c.as_ref-in-Labelled.ensures in
    test_some_fault S procs defs Γ t0 k.span k.test s a h n w c.in_err-made-in-Labelled.field-0.0 c.from_residual-in_err-made-in-Labelled.result v is c.in_err-made-in-Labelled.ensures.answer c.from_residual-in_err-made-in-Labelled.ensures.1

pub type_test-returns-in-All-clause-answer : goal.type_test-returns-in-All-clause-answer
type_test-returns-in-All-clause-answer g t c =
    let D = g.D.Decider in
    let defs = D.definitions c.args.decider.now in
    let other = D.unnamed c.args.decider.now in
    let procs = procs_of c.args.procs.now in
    let Γ = c.args.gamma.now in
    let S = IsEvidence defs other in
    let t0 = measured_type c.args.focus in
    let k = c.args.tested.now in
    let s = core_of k.body.now in
    let m = c.in-Some.one in
    let a = measured_type m in
    let h = stood_some defs c.defs.result.now t0 c.in_ok-one.field-0 m c.defs.ensures.value c.in_ok-one.ensures c.in-Some.is in
    test_all_answer S procs defs Γ t0 k.span k.test s a h c.type_core.result (told k.test c.as_ref.result.now m.ty.value c.passing_trees.result All c.as_ref.ensures c.passing_trees.ensures c.in-All.is) c.type_core.ensures.answer

pub type_test-returns-in-Nothing-clause-answer : goal.type_test-returns-in-Nothing-clause-answer
type_test-returns-in-Nothing-clause-answer g t c =
    let D = g.D.Decider in
    let defs = D.definitions c.args.decider.now in
    let other = D.unnamed c.args.decider.now in
    let procs = procs_of c.args.procs.now in
    let Γ = c.args.gamma.now in
    let S = IsEvidence defs other in
    let t0 = measured_type c.args.focus in
    let k = c.args.tested.now in
    let s = core_of k.body.now in
    let m = c.in-Some.one in
    let a = measured_type m in
    let h = stood_some defs c.defs.result.now t0 c.in_ok-one.field-0 m c.defs.ensures.value c.in_ok-one.ensures c.in-Some.is in
    test_none_answer S procs defs Γ t0 k.span k.test s a h (told k.test c.as_ref.result.now m.ty.value c.passing_trees.result Nothing c.as_ref.ensures c.passing_trees.ensures c.in-Nothing.is) m.limits

pub type_test-returns-in_ok-made-in-Labelled-clause-answer : goal.type_test-returns-in_ok-made-in-Labelled-clause-answer
type_test-returns-in_ok-made-in-Labelled-clause-answer g t c =
    let D = g.D.Decider in
    let defs = D.definitions c.args.decider.now in
    let other = D.unnamed c.args.decider.now in
    let procs = procs_of c.args.procs.now in
    let Γ = c.args.gamma.now in
    let S = IsEvidence defs other in
    let t0 = measured_type c.args.focus in
    let k = c.args.tested.now in
    let s = core_of k.body.now in
    let m = c.in-Some.one in
    let a = measured_type m in
    let h = stood_some defs c.defs.result.now t0 c.in_ok-one.field-0 m c.defs.ensures.value c.in_ok-one.ensures c.in-Some.is in
    let n = c.in-Labelled.label in
    let v = told k.test c.as_ref.result.now m.ty.value c.passing_trees.result (Labelled n) c.as_ref.ensures c.passing_trees.ensures c.in-Labelled.is in
    let w = measured_type c.in_ok-labelled-in-Labelled.labelled in
    let is = c.in_ok-labelled-in-Labelled.ensures ∙ ap (λ x. element n (content_type (ty_of x))) c.as_ref-in-Labelled.ensures in
    test_some_answer S procs defs Γ t0 k.span k.test s a h n w (measured_type c.in_ok-made-in-Labelled.made) c.either.result v is c.in_ok-made-in-Labelled.ensures.answer c.either.ensures

pub type_children-returns-in_default-clause-answer : goal.type_children-returns-in_default-clause-answer
type_children-returns-in_default-clause-answer g t c =
    let D = g.D.Decider in
    let defs = D.definitions c.args.decider.now in
    let other = D.unnamed c.args.decider.now in
    let procs = procs_of c.args.procs.now in
    let Γ = c.args.gamma.now in
    let S = IsEvidence defs other in
    let t0 = measured_type c.args.focus in
    let k = c.args.part.now in
    let s = core_of k.body.now in
    children_many (stood_none defs c.defs.result.now t0 c.in_ok-one.field-0 c.defs.ensures.value c.in_ok-one.ensures c.in_default.is)

pub type_children-returns-in_default-2-clause-answer : goal.type_children-returns-in_default-2-clause-answer
type_children-returns-in_default-2-clause-answer g t c =
    let D = g.D.Decider in
    let defs = D.definitions c.args.decider.now in
    let other = D.unnamed c.args.decider.now in
    let procs = procs_of c.args.procs.now in
    let Γ = c.args.gamma.now in
    let S = IsEvidence defs other in
    let t0 = measured_type c.args.focus in
    let k = c.args.part.now in
    let s = core_of k.body.now in
    let m = c.in-Some.one in
    let h = stood_some defs c.defs.result.now t0 c.in_ok-one.field-0 m c.defs.ensures.value c.in_ok-one.ensures c.in-Some.is in
    children_none S procs defs Γ t0 k.span s m h c.in_ok-element.field-0 c.in_ok-element.ensures c.in_default-2.is

pub type_children-type_core-requires : goal.type_children-type_core-requires
type_children-type_core-requires g t c κs within =
    let D = g.D.Decider in
    let defs = D.definitions c.args.decider.now in
    let other = D.unnamed c.args.decider.now in
    let procs = procs_of c.args.procs.now in
    let Γ = c.args.gamma.now in
    let S = IsEvidence defs other in
    let t0 = measured_type c.args.focus in
    let k = c.args.part.now in
    let s = core_of k.body.now in
    let m = c.in-Some.one in
    let h = stood_some defs c.defs.result.now t0 c.in_ok-one.field-0 m c.defs.ensures.value c.in_ok-one.ensures c.in-Some.is in
    let x = c.in-Some-2.element in
    let o = c.in_ok-element.field-0 in
    (omega (arith, c.decreases), (search rules, (stage_content (measured_type m) x.label (measured_type x.content) (opened_some m o x c.in_ok-element.ensures c.in-Some-2.is) (stage_one t0 (measured_type m) h c.requires.stage), (c.requires.body_lacks, c.requires.body_calls))))

pub type_children-returns-in_err-made-clause-answer : goal.type_children-returns-in_err-made-clause-answer
type_children-returns-in_err-made-clause-answer g t c =
    let D = g.D.Decider in
    let defs = D.definitions c.args.decider.now in
    let other = D.unnamed c.args.decider.now in
    let procs = procs_of c.args.procs.now in
    let Γ = c.args.gamma.now in
    let S = IsEvidence defs other in
    let t0 = measured_type c.args.focus in
    let k = c.args.part.now in
    let s = core_of k.body.now in
    let m = c.in-Some.one in
    let h = stood_some defs c.defs.result.now t0 c.in_ok-one.field-0 m c.defs.ensures.value c.in_ok-one.ensures c.in-Some.is in
    let x = c.in-Some-2.element in
    let o = c.in_ok-element.field-0 in
    children_fault S procs defs Γ t0 k.span s m h o c.in_ok-element.ensures x c.in_err-made.field-0.0 c.from_residual-in_err-made.result c.in-Some-2.is c.in_err-made.ensures.answer c.from_residual-in_err-made.ensures.1

pub type_children-returns-clause-answer : goal.type_children-returns-clause-answer
type_children-returns-clause-answer g t c =
    let D = g.D.Decider in
    let defs = D.definitions c.args.decider.now in
    let other = D.unnamed c.args.decider.now in
    let procs = procs_of c.args.procs.now in
    let Γ = c.args.gamma.now in
    let S = IsEvidence defs other in
    let t0 = measured_type c.args.focus in
    let k = c.args.part.now in
    let s = core_of k.body.now in
    let m = c.in-Some.one in
    let h = stood_some defs c.defs.result.now t0 c.in_ok-one.field-0 m c.defs.ensures.value c.in_ok-one.ensures c.in-Some.is in
    let x = c.in-Some-2.element in
    let o = c.in_ok-element.field-0 in
    children_answer S procs defs Γ t0 k.span s m h o c.in_ok-element.ensures x (measured_type c.in_ok-made.made) c.close_element.result c.in-Some-2.is c.in_ok-made.ensures.answer c.close_element.ensures

pub type_left-returns-in_err-made-clause-answer : goal.type_left-returns-in_err-made-clause-answer
type_left-returns-in_err-made-clause-answer g t c =
    let D = g.D.Decider in
    let defs = D.definitions c.args.decider.now in
    let other = D.unnamed c.args.decider.now in
    let procs = procs_of c.args.procs.now in
    let Γ = c.args.gamma.now in
    let S = IsEvidence defs other in
    let t0 = measured_type c.args.focus in
    let k = c.args.part.now in
    let s = core_of k.body.now in
    left_fault S procs defs Γ t0 k.span s (measured_type c.in_ok-empty.empty) c.in_ok-empty.ensures c.in_err-made.field-0.0 c.from_residual-in_err-made.result c.in_err-made.ensures.answer c.from_residual-in_err-made.ensures.1

pub type_left-returns-clause-answer : goal.type_left-returns-clause-answer
type_left-returns-clause-answer g t c =
    let D = g.D.Decider in
    let defs = D.definitions c.args.decider.now in
    let other = D.unnamed c.args.decider.now in
    let procs = procs_of c.args.procs.now in
    let Γ = c.args.gamma.now in
    let S = IsEvidence defs other in
    let t0 = measured_type c.args.focus in
    let k = c.args.part.now in
    let s = core_of k.body.now in
    left_answer S procs defs Γ t0 k.span s (measured_type c.in_ok-empty.empty) c.in_ok-empty.ensures (measured_type c.in_ok-made.made) c.in_sequence.result c.in_ok-made.ensures.answer c.in_sequence.ensures

pub type_right-returns-in_err-made-clause-answer : goal.type_right-returns-in_err-made-clause-answer
type_right-returns-in_err-made-clause-answer g t c =
    let D = g.D.Decider in
    let defs = D.definitions c.args.decider.now in
    let other = D.unnamed c.args.decider.now in
    let procs = procs_of c.args.procs.now in
    let Γ = c.args.gamma.now in
    let S = IsEvidence defs other in
    let t0 = measured_type c.args.focus in
    let k = c.args.part.now in
    let s = core_of k.body.now in
    right_fault S procs defs Γ t0 k.span s (measured_type c.in_ok-empty.empty) c.in_ok-empty.ensures c.in_err-made.field-0.0 c.from_residual-in_err-made.result c.in_err-made.ensures.answer c.from_residual-in_err-made.ensures.1

pub type_right-returns-clause-answer : goal.type_right-returns-clause-answer
type_right-returns-clause-answer g t c =
    let D = g.D.Decider in
    let defs = D.definitions c.args.decider.now in
    let other = D.unnamed c.args.decider.now in
    let procs = procs_of c.args.procs.now in
    let Γ = c.args.gamma.now in
    let S = IsEvidence defs other in
    let t0 = measured_type c.args.focus in
    let k = c.args.part.now in
    let s = core_of k.body.now in
    right_answer S procs defs Γ t0 k.span s (measured_type c.in_ok-empty.empty) c.in_ok-empty.ensures (measured_type c.in_ok-made.made) c.in_sequence.result c.in_ok-made.ensures.answer c.in_sequence.ensures

pub type_trees-returns-in_err-turn-clause-answer : goal.type_trees-returns-in_err-turn-clause-answer
type_trees-returns-in_err-turn-clause-answer g t c =
    let D = g.D.Decider in
    let defs = D.definitions c.args.decider.now in
    let other = D.unnamed c.args.decider.now in
    let procs = procs_of c.args.procs.now in
    let Γ = c.args.gamma.now in
    let S = IsEvidence defs other in
    let s = core_of c.args.part.now.body.now in
    let at = c.args.part.now.span.from in
    let whole = ty_of c.args.ty in
    let X = AtTree procs defs Γ s in
    map_answer procs defs Γ s at S whole c.from_residual.result (first_fault S defs X at whole c.defs.result.now c.new-walk.result.place (frames_in c.new-walk.result) (frames_in c.enter.new.self) c.in_err-turn.field-0.0 c.from_residual.result c.defs.ensures.value c.new-walk.ensures.place c.new-walk.ensures.frames c.in_err-turn.ensures.turn c.from_residual.ensures.1)

pub type_trees-loop-turn-init : goal.type_trees-loop-turn-init
type_trees-loop-turn-init g t c =
    let D = g.D.Decider in
    let defs = D.definitions c.args.decider.now in
    let other = D.unnamed c.args.decider.now in
    let procs = procs_of c.args.procs.now in
    let Γ = c.args.gamma.now in
    let S = IsEvidence defs other in
    let s = core_of c.args.part.now.body.now in
    let at = c.args.part.now.span.from in
    let whole = ty_of c.args.ty in
    let X = AtTree procs defs Γ s in
    record {
      left = record { definitions = refl; other = refl; keeps = refl; still = λ p h. h; gamma = refl };
      place = c.in_ok-turn.ensures.place ∙ c.new-walk.ensures.place;
      waiting = waiting_as defs c.defs.result.now (frames_in c.enter.new.self) c.defs.ensures.value c.in_ok-turn.ensures.waiting;
      labels = turn_labels (λ m. ¬ (m ≡ other)) defs c.defs.result.now c.new-walk.result.place (before (frames_in c.new-walk.result) whole) (frames_in c.enter.new.self) c.in_ok-turn.turn c.defs.ensures.value c.requires.stage.ready.lacks (labels_before (λ m. ¬ (m ≡ other)) (frames_in c.new-walk.result) whole c.new-walk.ensures.frames c.requires.stage.lacks) c.in_ok-turn.ensures.turn;
      leads = first_leads defs X at whole c.defs.result.now c.new-walk.result.place (frames_in c.new-walk.result) (frames_in c.enter.new.self) c.in_ok-turn.turn c.defs.ensures.value c.new-walk.ensures.place c.new-walk.ensures.frames c.in_ok-turn.ensures.turn;
    }

pub type_trees-returns-in-Over-clause-answer : goal.type_trees-returns-in-Over-clause-answer
type_trees-returns-in-Over-clause-answer g t c =
    let D = g.D.Decider in
    let defs = D.definitions c.args.decider.now in
    let other = D.unnamed c.args.decider.now in
    let procs = procs_of c.args.procs.now in
    let Γ = c.args.gamma.now in
    let S = IsEvidence defs other in
    let s = core_of c.args.part.now.body.now in
    let at = c.args.part.now.span.from in
    let whole = ty_of c.args.ty in
    let X = AtTree procs defs Γ s in
    let i = c.loop-turn.invariant in
    let gs = frames_in c.loop-turn.walk in
    map_typed procs defs Γ s at whole (measured_type c.in-Over.made) (turn_over defs X at whole gs c.loop-turn.turn c.in-Over.made c.in-Over.is i.leads)

pub type_trees-type_core-requires : goal.type_trees-type_core-requires
type_trees-type_core-requires g t c κs within =
    let D = g.D.Decider in
    let defs = D.definitions c.args.decider.now in
    let other = D.unnamed c.args.decider.now in
    let procs = procs_of c.args.procs.now in
    let Γ = c.args.gamma.now in
    let S = IsEvidence defs other in
    let s = core_of c.args.part.now.body.now in
    let at = c.args.part.now.span.from in
    let whole = ty_of c.args.ty in
    let X = AtTree procs defs Γ s in
    let i = c.loop-turn.invariant in
    let gs = frames_in c.loop-turn.walk in
    let a = ty_of c.in-At.tree in
    let h = turn_at defs X at whole gs c.loop-turn.turn c.in-At.tree c.in-At.is i.leads in
    let labels = labels_at (λ m. ¬ (m ≡ other)) gs c.loop-turn.turn c.in-At.tree c.in-At.is i.labels in
    let stage = stage_same a (measured_type c.in_ok-one-in-At.one) (ap ty_of c.in_ok-one-in-At.ensures) (stage_at whole a h.1 labels.0 c.requires.stage) in
    let there = as_behind (λ e n G. IsStage e n G procs (measured_type c.in_ok-one-in-At.one)) i.left stage in
    let lacks = as_behind (λ e n G. CoreLacks n s) i.left c.requires.body_lacks in
    (omega (arith, c.decreases), (search rules, (there, (lacks, c.requires.body_calls))))

pub type_trees-measure-requires : goal.type_trees-measure-requires
type_trees-measure-requires g t c =
    let D = g.D.Decider in
    let defs = D.definitions c.args.decider.now in
    let other = D.unnamed c.args.decider.now in
    let procs = procs_of c.args.procs.now in
    let Γ = c.args.gamma.now in
    let S = IsEvidence defs other in
    let s = core_of c.args.part.now.body.now in
    let at = c.args.part.now.span.from in
    let whole = ty_of c.args.ty in
    let X = AtTree procs defs Γ s in
    let i = c.loop-turn.invariant in
    let gs = frames_in c.loop-turn.walk in
    let a = ty_of c.in-At.tree in
    let h = turn_at defs X at whole gs c.loop-turn.turn c.in-At.tree c.in-At.is i.leads in
    h.1.limits

pub type_trees-returns-in_err-made-in-At-clause-answer : goal.type_trees-returns-in_err-made-in-At-clause-answer
type_trees-returns-in_err-made-in-At-clause-answer g t c =
    let D = g.D.Decider in
    let defs = D.definitions c.args.decider.now in
    let other = D.unnamed c.args.decider.now in
    let procs = procs_of c.args.procs.now in
    let Γ = c.args.gamma.now in
    let S = IsEvidence defs other in
    let s = core_of c.args.part.now.body.now in
    let at = c.args.part.now.span.from in
    let whole = ty_of c.args.ty in
    let X = AtTree procs defs Γ s in
    let i = c.loop-turn.invariant in
    let gs = frames_in c.loop-turn.walk in
    let a = ty_of c.in-At.tree in
    let h = turn_at defs X at whole gs c.loop-turn.turn c.in-At.tree c.in-At.is i.leads in
    let e0 = c.in_err-made-in-At.field-0.0 in
    let one = c.in_ok-one-in-At.one in
    let fault = fault_of S procs defs Γ a (measured_type one) s e0 (ap ty_of c.in_ok-one-in-At.ensures) (as_before (λ e n G. IsFault (IsEvidence e n) (Comes procs e G (measured_type one) s) e0) i.left c.in_err-made-in-At.ensures.answer) in
    map_answer procs defs Γ s at S whole c.from_residual-in_err-made-in-At.result (tree_fault S defs X at whole gs a e0 c.from_residual-in_err-made-in-At.result h.0 h.2 fault c.from_residual-in_err-made-in-At.ensures.1)

pub type_trees-returns-in_err-turn-in-At-clause-answer : goal.type_trees-returns-in_err-turn-in-At-clause-answer
type_trees-returns-in_err-turn-in-At-clause-answer g t c =
    let D = g.D.Decider in
    let defs = D.definitions c.args.decider.now in
    let other = D.unnamed c.args.decider.now in
    let procs = procs_of c.args.procs.now in
    let Γ = c.args.gamma.now in
    let S = IsEvidence defs other in
    let s = core_of c.args.part.now.body.now in
    let at = c.args.part.now.span.from in
    let whole = ty_of c.args.ty in
    let X = AtTree procs defs Γ s in
    let i = c.loop-turn.invariant in
    let gs = frames_in c.loop-turn.walk in
    let a = ty_of c.in-At.tree in
    let h = turn_at defs X at whole gs c.loop-turn.turn c.in-At.tree c.in-At.is i.leads in
    let one = c.in_ok-one-in-At.one in
    let same_one = ap ty_of c.in_ok-one-in-At.ensures in
    let one_made = answer_of S procs defs Γ a (measured_type one) s (Ok c.in_ok-made-in-At.made) same_one (as_before (λ e n G. IsAnswer (IsEvidence e n) (Comes procs e G (measured_type one) s) (Ok c.in_ok-made-in-At.made)) i.left c.in_ok-made-in-At.ensures.answer) in
    let same = c.defs-in-At.ensures.value ∙ c.in_ok-made-in-At.ensures.left.definitions ∙ i.left.definitions in
    map_answer procs defs Γ s at S whole c.from_residual-in_err-turn-in-At.result (next_fault S defs X at whole c.defs-in-At.result.now c.loop-turn.walk.place gs (frames_in c.put.new.self) a (measured_type c.in_ok-made-in-At.made) c.in_err-turn-in-At.field-0.0 c.from_residual-in_err-turn-in-At.result same i.place h.0 h.2 one_made c.in_ok-made-in-At.made.limits c.in_err-turn-in-At.ensures.turn c.from_residual-in_err-turn-in-At.ensures.1)

pub type_trees-loop-turn-smaller : goal.type_trees-loop-turn-smaller
type_trees-loop-turn-smaller g t c =
    let D = g.D.Decider in
    let defs = D.definitions c.args.decider.now in
    let other = D.unnamed c.args.decider.now in
    let procs = procs_of c.args.procs.now in
    let Γ = c.args.gamma.now in
    let S = IsEvidence defs other in
    let s = core_of c.args.part.now.body.now in
    let at = c.args.part.now.span.from in
    let whole = ty_of c.args.ty in
    let X = AtTree procs defs Γ s in
    let i = c.loop-turn.invariant in
    let gs = frames_in c.loop-turn.walk in
    let a = ty_of c.in-At.tree in
    let h = turn_at defs X at whole gs c.loop-turn.turn c.in-At.tree c.in-At.is i.leads in
    let one = c.in_ok-one-in-At.one in
    let same_one = ap ty_of c.in_ok-one-in-At.ensures in
    let one_made = answer_of S procs defs Γ a (measured_type one) s (Ok c.in_ok-made-in-At.made) same_one (as_before (λ e n G. IsAnswer (IsEvidence e n) (Comes procs e G (measured_type one) s) (Ok c.in_ok-made-in-At.made)) i.left c.in_ok-made-in-At.ensures.answer) in
    let same = c.defs-in-At.ensures.value ∙ c.in_ok-made-in-At.ensures.left.definitions ∙ i.left.definitions in
    turn_less defs c.defs-in-At.result.now c.loop-turn.walk.place gs (frames_in c.put.new.self) c.in-At.tree (measured_type c.in_ok-made-in-At.made) c.loop-turn.turn c.in_ok-turn-in-At.turn same c.requires.stage.ready.kept c.in-At.is h.0 c.in_ok-turn-in-At.ensures.turn

pub type_trees-loop-turn-preserved : goal.type_trees-loop-turn-preserved
type_trees-loop-turn-preserved g t c =
    let D = g.D.Decider in
    let defs = D.definitions c.args.decider.now in
    let other = D.unnamed c.args.decider.now in
    let procs = procs_of c.args.procs.now in
    let Γ = c.args.gamma.now in
    let S = IsEvidence defs other in
    let s = core_of c.args.part.now.body.now in
    let at = c.args.part.now.span.from in
    let whole = ty_of c.args.ty in
    let X = AtTree procs defs Γ s in
    let i = c.loop-turn.invariant in
    let gs = frames_in c.loop-turn.walk in
    let a = ty_of c.in-At.tree in
    let h = turn_at defs X at whole gs c.loop-turn.turn c.in-At.tree c.in-At.is i.leads in
    let one = c.in_ok-one-in-At.one in
    let same_one = ap ty_of c.in_ok-one-in-At.ensures in
    let one_made = answer_of S procs defs Γ a (measured_type one) s (Ok c.in_ok-made-in-At.made) same_one (as_before (λ e n G. IsAnswer (IsEvidence e n) (Comes procs e G (measured_type one) s) (Ok c.in_ok-made-in-At.made)) i.left c.in_ok-made-in-At.ensures.answer) in
    let same = c.defs-in-At.ensures.value ∙ c.in_ok-made-in-At.ensures.left.definitions ∙ i.left.definitions in
    record {
      left = left_by_both i.left c.in_ok-made-in-At.ensures.left;
      place = c.in_ok-turn-in-At.ensures.place ∙ i.place;
      waiting = waiting_as defs c.defs-in-At.result.now (frames_in c.put.new.self) same c.in_ok-turn-in-At.ensures.waiting;
      labels = turn_labels (λ m. ¬ (m ≡ other)) defs c.defs-in-At.result.now c.loop-turn.walk.place (behind gs (measured_type c.in_ok-made-in-At.made)) (frames_in c.put.new.self) c.in_ok-turn-in-At.turn same c.requires.stage.ready.lacks (labels_at (λ m. ¬ (m ≡ other)) gs c.loop-turn.turn c.in-At.tree c.in-At.is i.labels).1 c.in_ok-turn-in-At.ensures.turn;
      leads = next_leads defs X at whole c.defs-in-At.result.now c.loop-turn.walk.place gs (frames_in c.put.new.self) a (measured_type c.in_ok-made-in-At.made) c.in_ok-turn-in-At.turn same i.place h.0 h.2 one_made c.in_ok-made-in-At.made.limits c.in_ok-turn-in-At.ensures.turn;
    }
