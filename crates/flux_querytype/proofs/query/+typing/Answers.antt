use Rattle.std.proofs.Common.{rules, arith, refl, ◌≡◌, ◌∙◌, ◌∷◌, Ok, Err}
use Rattle.flux_atom.specs.declared.atom.AtomKind.TheVariants as kind
use Rattle.flux_types.specs.declared.ty.Ty.TheVariants.{Atom}
use Rattle.flux_types.specs.Read.{ty_of}
use Rattle.flux_calculus.specs.Typing.{keeping, returning}
use Rattle.flux_query.specs.Read.{query_of}
use Rattle.flux_querytype.proofs.Left.{left_by_both, left_scope}
use Rattle.flux_querytype.proofs.Weights.{weight_pos, weight_last, weight_inside, weights_below}
use Rattle.flux_querytype.proofs.Known.{Scope, typed_usable, ready_bound, ready_same, usable_same, usable_owned, usable_under, context_same, lacks_same}
use Rattle.flux_query.proofs.Variants.{of_concat, of_lit, of_let, of_same, of_less}
use Rattle.flux_querytype.proofs.Lacking.{lacks_listed, lacks_last, lacks_inside}
use Rattle.flux_core.proofs.WalkLabels.{turn_labels, labels_at, labels_before}
use Rattle.flux_querytype.proofs.MapLaws.{Treated, mapped, answer_mapped, waiting_as}
use Rattle.flux_core.specs.Walk.{before, behind, frames_in}
use Rattle.flux_core.proofs.TurnLaws.{first_leads, first_fault, next_leads, next_fault, tree_fault, turn_at, turn_over, turn_less}
use Rattle.flux_querytype.proofs.Typed.{shows, filtered_same, leaf_same, less_left, less_right, less_answer, number_passed, number_refused, number_same, number_fault_same, fault_same, answer_same, answer_at, under_same, under_tree, has_owned, maps_same, returning_same, no_length, element_fault, element_answer, literal_answer, bound_fault, binding_answer, condition_passed, condition_refused, choice_yes, choice_no, choice_answer, left_fault, right_fault, alike_answer, from_fault, filter_answer, over_fault, each_answer, none_answer, behind_last, behind_more, behind_all}
use Rattle.flux_querytype.proofs.query.+typing.Goals as goal

pub type_element-returns-in_err-content-clause-answer : goal.type_element-returns-in_err-content-clause-answer
type_element-returns-in_err-content-clause-answer g t c = element_fault (g.D.Decider.definitions c.args.decider.now, g.D.Decider.unnamed c.args.decider.now) c.args.gamma.now c.args.span c.args.label (query_of c.args.content.now) c.in_err-content.field-0.0 c.from_residual.result c.in_err-content.ensures.answer c.from_residual.ensures.1

pub type_element-returns-clause-answer : goal.type_element-returns-clause-answer
type_element-returns-clause-answer g t c = element_answer (g.D.Decider.definitions c.args.decider.now, g.D.Decider.unnamed c.args.decider.now) c.args.gamma.now c.args.span c.args.label (query_of c.args.content.now) _ c.one_element.result c.in_ok-content.ensures.answer c.one_element.ensures

pub type_alike-returns-in_err-_left-clause-answer : goal.type_alike-returns-in_err-_left-clause-answer
type_alike-returns-in_err-_left-clause-answer g t c = λ at. left_fault (g.D.Decider.definitions c.args.decider.now, g.D.Decider.unnamed c.args.decider.now) c.args.gamma.now at (query_of c.args.left.now) (query_of c.args.right.now) c.in_err-_left.field-0.0 c.from_residual.result c.in_err-_left.ensures.answer c.from_residual.ensures.1

pub type_alike-returns-in_err-_right-clause-answer : goal.type_alike-returns-in_err-_right-clause-answer
type_alike-returns-in_err-_right-clause-answer g t c = λ at.
    let h = fault_same (g.D.Decider.definitions c.args.decider.now, g.D.Decider.unnamed c.args.decider.now) _ c.args.gamma.now _ (query_of c.args.right.now) _ (left_scope c.in_ok-_left.ensures.left) c.in_ok-_left.ensures.left.gamma c.in_err-_right.ensures.answer in
    right_fault (g.D.Decider.definitions c.args.decider.now, g.D.Decider.unnamed c.args.decider.now) c.args.gamma.now at (query_of c.args.left.now) (query_of c.args.right.now) _ c.in_err-_right.field-0.0 c.from_residual-in_err-_right.result c.in_ok-_left.ensures.answer h c.from_residual-in_err-_right.ensures.1

pub type_alike-returns-clause-answer : goal.type_alike-returns-clause-answer
type_alike-returns-clause-answer g t c = λ at.
    let h = answer_same (g.D.Decider.definitions c.args.decider.now, g.D.Decider.unnamed c.args.decider.now) _ c.args.gamma.now _ (query_of c.args.right.now) (Ok c.in_ok-_right._right) (left_scope c.in_ok-_left.ensures.left) c.in_ok-_left.ensures.left.gamma c.in_ok-_right.ensures.answer in
    alike_answer (g.D.Decider.definitions c.args.decider.now, g.D.Decider.unnamed c.args.decider.now) c.args.gamma.now at (query_of c.args.left.now) (query_of c.args.right.now) _ _ c.in_ok-made.made c.in_ok-_left.ensures.answer h c.in_ok-made.ensures

pub type_binding-returns-in_err-bound-clause-answer : goal.type_binding-returns-in_err-bound-clause-answer
type_binding-returns-in_err-bound-clause-answer g t c = λ at. bound_fault (g.D.Decider.definitions c.args.decider.now, g.D.Decider.unnamed c.args.decider.now) c.args.gamma.now at c.args.var.now (query_of c.args.bound.now) (query_of c.args.body.now) c.in_err-bound.field-0.0 c.from_residual.result c.in_err-bound.ensures.answer c.from_residual.ensures.1

pub type_binding-type_under-requires : goal.type_binding-type_under-requires
type_binding-type_under-requires g t c κs within =
    let scope : Scope = (g.D.Decider.definitions c.args.decider.now, g.D.Decider.unnamed c.args.decider.now) in
    let same = left_scope c.in_ok-bound.ensures.left in
    let ty = ty_of c.in_ok-bound.bound.ty.value in
    let usable = usable_same scope _ ty same (typed_usable scope c.args.gamma.now (query_of c.args.bound.now) ty c.requires.ready c.requires.bound_lacks c.in_ok-bound.ensures.answer c.in_ok-bound.bound.limits) in
    let ready = ready_same scope _ c.args.gamma.now _ same c.in_ok-bound.ensures.left.gamma c.requires.ready in
    let lacks = lacks_same scope _ (query_of c.args.body.now) same c.requires.body_lacks in
    (omega (arith, c.decreases, weight_pos (query_of c.args.bound.now)), (search rules, (ready, (lacks, (usable.0, usable.1)))))

pub type_binding-returns-clause-answer : goal.type_binding-returns-clause-answer
type_binding-returns-clause-answer g t c = λ at.
    let scope : Scope = (g.D.Decider.definitions c.args.decider.now, g.D.Decider.unnamed c.args.decider.now) in
    let h = under_same scope _ c.args.gamma.now _ c.args.var.now (ty_of c.in_ok-bound.bound.ty.value) (query_of c.args.body.now) c.type_under.result (left_scope c.in_ok-bound.ensures.left) c.in_ok-bound.ensures.left.gamma c.type_under.ensures.answer in
    binding_answer scope c.args.gamma.now at c.args.var.now (query_of c.args.bound.now) (query_of c.args.body.now) (ty_of c.in_ok-bound.bound.ty.value) c.type_under.result c.in_ok-bound.ensures.answer h

pub type_under-type_of-outcome-requires : goal.type_under-type_of-outcome-requires
type_under-type_of-outcome-requires g t c κs within =
    let scope : Scope = (g.D.Decider.definitions c.args.decider.now, g.D.Decider.unnamed c.args.decider.now) in
    let ready = ready_bound scope c.args.gamma.now _ c.args.var.now (ty_of c.args.made.ty.value) c.in_ok-bind_shared.ensures.ok c.requires.ready (c.requires.usable, c.requires.lacks) in
    (omega (arith, c.decreases), (search rules, (ready, c.requires.body_lacks)))

pub type_choice-type_condition-requires : goal.type_choice-type_condition-requires
type_choice-type_condition-requires g t c κs within = (omega (arith, c.decreases, weight_pos (query_of c.args.yes.now)), (search rules, (c.requires.ready, c.requires.condition_lacks)))

pub type_choice-returns-in_err-yes-clause-answer : goal.type_choice-returns-in_err-yes-clause-answer
type_choice-returns-in_err-yes-clause-answer g t c =
    let h = fault_same (g.D.Decider.definitions c.args.decider.now, g.D.Decider.unnamed c.args.decider.now) _ c.args.gamma.now _ (query_of c.args.yes.now) _ (left_scope c.in_ok-type_condition.ensures.left) c.in_ok-type_condition.ensures.left.gamma c.in_err-yes.ensures.answer in
    choice_yes (g.D.Decider.definitions c.args.decider.now, g.D.Decider.unnamed c.args.decider.now) c.args.gamma.now c.args.span (query_of c.args.condition.now) (query_of c.args.yes.now) (query_of c.args.no.now) c.in_err-yes.field-0.0 c.from_residual-in_err-yes.result c.in_ok-type_condition.ensures.answer h c.from_residual-in_err-yes.ensures.1

pub type_choice-returns-in_err-no-clause-answer : goal.type_choice-returns-in_err-no-clause-answer
type_choice-returns-in_err-no-clause-answer g t c =
    let one = c.in_ok-type_condition.ensures in
    let two = c.in_ok-yes.ensures in
    let d = answer_same (g.D.Decider.definitions c.args.decider.now, g.D.Decider.unnamed c.args.decider.now) _ c.args.gamma.now _ (query_of c.args.yes.now) (Ok c.in_ok-yes.yes) (left_scope one.left) one.left.gamma two.answer in
    let h = fault_same (g.D.Decider.definitions c.args.decider.now, g.D.Decider.unnamed c.args.decider.now) _ c.args.gamma.now _ (query_of c.args.no.now) _ ((left_scope two.left) ∙ left_scope one.left) (two.left.gamma ∙ one.left.gamma) c.in_err-no.ensures.answer in
    choice_no (g.D.Decider.definitions c.args.decider.now, g.D.Decider.unnamed c.args.decider.now) c.args.gamma.now c.args.span (query_of c.args.condition.now) (query_of c.args.yes.now) (query_of c.args.no.now) _ c.in_err-no.field-0.0 c.from_residual-in_err-no.result one.answer d h c.from_residual-in_err-no.ensures.1

pub type_choice-returns-clause-answer : goal.type_choice-returns-clause-answer
type_choice-returns-clause-answer g t c =
    let one = c.in_ok-type_condition.ensures in
    let two = c.in_ok-yes.ensures in
    let d = answer_same (g.D.Decider.definitions c.args.decider.now, g.D.Decider.unnamed c.args.decider.now) _ c.args.gamma.now _ (query_of c.args.yes.now) (Ok c.in_ok-yes.yes) (left_scope one.left) one.left.gamma two.answer in
    let k = answer_same (g.D.Decider.definitions c.args.decider.now, g.D.Decider.unnamed c.args.decider.now) _ c.args.gamma.now _ (query_of c.args.no.now) (Ok c.in_ok-no.no) ((left_scope two.left) ∙ left_scope one.left) (two.left.gamma ∙ one.left.gamma) c.in_ok-no.ensures.answer in
    choice_answer (g.D.Decider.definitions c.args.decider.now, g.D.Decider.unnamed c.args.decider.now) c.args.gamma.now c.args.span (query_of c.args.condition.now) (query_of c.args.yes.now) (query_of c.args.no.now) _ _ c.either.result one.answer d k c.either.ensures

pub type_condition-returns-in_err-found-clause-fault : goal.type_condition-returns-in_err-found-clause-fault
type_condition-returns-in_err-found-clause-fault g t c = condition_passed (g.D.Decider.definitions c.args.decider.now, g.D.Decider.unnamed c.args.decider.now) c.args.gamma.now (query_of c.args.condition.now) c.in_err-found.field-0.0 c.from_residual.result c.in_err-found.ensures.answer c.from_residual.ensures.1

pub type_condition-included-requires-clause-left_known : goal.type_condition-included-requires-clause-left_known
type_condition-included-requires-clause-left_known g t c =
    let scope : Scope = (g.D.Decider.definitions c.args.decider.now, g.D.Decider.unnamed c.args.decider.now) in
    let usable = typed_usable scope c.args.gamma.now (query_of c.args.condition.now) (ty_of c.in_ok-found.found.ty.value) c.requires.ready c.requires.condition_lacks c.in_ok-found.ensures.answer c.in_ok-found.found.limits in
    (usable_owned scope _ c.as_ref.result.now c.in_ok-found.found.ty.value c.as_ref.ensures (left_scope c.in_ok-found.ensures.left) usable).0.known

pub type_condition-returns-clause-fault : goal.type_condition-returns-clause-fault
type_condition-returns-clause-fault g t c =
    let found = c.in_ok-found.ensures in
    let answer = has_owned (g.D.Decider.definitions c.args.decider.now, g.D.Decider.unnamed c.args.decider.now) c.args.gamma.now (query_of c.args.condition.now) c.as_ref.result.now c.in_ok-found.found.ty.value c.as_ref.ensures found.answer in
    condition_refused (g.D.Decider.definitions c.args.decider.now, g.D.Decider.unnamed c.args.decider.now) _ c.args.gamma.now (query_of c.args.condition.now) c.place.result (ty_of c.as_ref.result.now) (Atom kind.Bool) c.in_ok-included.field-0 c.in-No.shown answer (left_scope found.left) c.place.ensures refl c.in-No.is c.in_ok-included.ensures.verdict

pub type_filter-returns-in_err-from-clause-answer : goal.type_filter-returns-in_err-from-clause-answer
type_filter-returns-in_err-from-clause-answer g t c = from_fault (g.D.Decider.definitions c.args.decider.now, g.D.Decider.unnamed c.args.decider.now) c.args.gamma.now c.args.span (query_of c.args.from.now) c.args.test.now c.in_err-from.field-0.0 c.from_residual.result c.in_err-from.ensures.answer c.from_residual.ensures.1

pub type_filter-filtered-requires-clause-usable : goal.type_filter-filtered-requires-clause-usable
type_filter-filtered-requires-clause-usable g t c =
    let scope : Scope = (g.D.Decider.definitions c.args.decider.now, g.D.Decider.unnamed c.args.decider.now) in
    let usable = typed_usable scope c.args.gamma.now (query_of c.args.from.now) (ty_of c.in_ok-from.from.ty.value) c.requires.ready c.requires.from_lacks c.in_ok-from.ensures.answer c.in_ok-from.from.limits in
    let owned = usable_owned scope scope c.in_ok-trees.trees c.in_ok-from.from.ty.value c.in_ok-trees.ensures refl usable in
    usable_under scope.0 _ (ty_of c.in_ok-trees.trees) (c.defs.ensures.value ∙ c.in_ok-from.ensures.left.definitions) owned.0

pub type_filter-returns-clause-answer : goal.type_filter-returns-clause-answer
type_filter-returns-clause-answer g t c =
    let scope : Scope = (g.D.Decider.definitions c.args.decider.now, g.D.Decider.unnamed c.args.decider.now) in
    let h = filtered_same scope _ c.args.span.from (keeping c.args.test.now) (ty_of c.in_ok-trees.trees) c.filtered.result (c.defs.ensures.value ∙ c.in_ok-from.ensures.left.definitions) c.filtered.ensures in
    let answer = has_owned scope c.args.gamma.now (query_of c.args.from.now) c.in_ok-trees.trees c.in_ok-from.from.ty.value c.in_ok-trees.ensures c.in_ok-from.ensures.answer in
    filter_answer scope c.args.gamma.now c.args.span (query_of c.args.from.now) c.args.test.now (ty_of c.in_ok-trees.trees) c.filtered.result answer h

pub type_each-returns-in_err-over-clause-answer : goal.type_each-returns-in_err-over-clause-answer
type_each-returns-in_err-over-clause-answer g t c = over_fault (g.D.Decider.definitions c.args.decider.now, g.D.Decider.unnamed c.args.decider.now) c.args.gamma.now c.args.step.now.span c.args.step.now.var (query_of c.args.over.now) (query_of c.args.step.now.body.now) c.in_err-over.field-0.0 c.from_residual.result c.in_err-over.ensures.answer c.from_residual.ensures.1

pub type_of-type_all-requires : goal.type_of-type_all-requires
type_of-type_all-requires g t c κs within =
    let is = of_concat c.args.query.now c.in-Concat.queries c.in-Concat.span c.in-Concat.is in
    let fewer = weights_below (query_of c.args.query.now) c.in-Concat.span c.in-Concat.queries c.as_slice.result.now is c.as_slice.ensures in
    let lacks = lacks_listed (g.D.Decider.unnamed c.args.decider.now) (query_of c.args.query.now) c.in-Concat.span c.in-Concat.queries c.as_slice.result.now is c.as_slice.ensures c.requires.query_lacks in
    (omega (arith, c.decreases, fewer), (search rules, (c.requires.ready, lacks)))

pub type_of-type_variable-requires : goal.type_of-type_variable-requires
type_of-type_variable-requires g t c = context_same (g.D.Decider.definitions c.args.decider.now) c.defs.result.now c.args.gamma.now c.defs.ensures.value c.requires.ready.usable

pub type_of-type_child-requires-clause-usable : goal.type_of-type_child-requires-clause-usable
type_of-type_child-requires-clause-usable g t c = context_same (g.D.Decider.definitions c.args.decider.now) c.defs-in-Child.result.now c.args.gamma.now c.defs-in-Child.ensures.value c.requires.ready.usable

pub type_of-returns-in_ok-one_atom-in-Lit-clause-answer : goal.type_of-returns-in_ok-one_atom-in-Lit-clause-answer
type_of-returns-in_ok-one_atom-in-Lit-clause-answer g t c = literal_answer (g.D.Decider.definitions c.args.decider.now, g.D.Decider.unnamed c.args.decider.now) c.args.gamma.now _ (query_of c.args.query.now) c.in-Lit.atom c.in_ok-one_atom-in-Lit.field-0 c.kind.result (of_lit c.args.query.now c.in-Lit.atom c.in-Lit.field-1 c.in-Lit.is) c.kind.ensures c.in_ok-one_atom-in-Lit.ensures

pub type_of-returns-in-Let-clause-answer : goal.type_of-returns-in-Let-clause-answer
type_of-returns-in-Let-clause-answer g t c = answer_at (g.D.Decider.definitions c.args.decider.now, g.D.Decider.unnamed c.args.decider.now) c.args.gamma.now (query_of c.args.query.now) _ c.type_binding.result (of_let c.args.query.now c.in-Let.var c.in-Let.bound c.in-Let.body c.get-in-Let.result.now c.get-in-Let-2.result.now c.in-Let.field-3 c.in-Let.is c.get-in-Let.ensures c.get-in-Let-2.ensures) (c.type_binding.ensures.answer c.in-Let.field-3)

pub type_of-returns-in-Same-clause-answer : goal.type_of-returns-in-Same-clause-answer
type_of-returns-in-Same-clause-answer g t c = answer_at (g.D.Decider.definitions c.args.decider.now, g.D.Decider.unnamed c.args.decider.now) c.args.gamma.now (query_of c.args.query.now) _ c.type_alike.result (of_same c.args.query.now c.in-Same.left c.in-Same.right c.get-in-Same.result.now c.get-in-Same-2.result.now c.in-Same.field-2 c.in-Same.is c.get-in-Same.ensures c.get-in-Same-2.ensures) (c.type_alike.ensures.answer c.in-Same.field-2)

pub type_all-returns-in_default-clause-answer : goal.type_all-returns-in_default-clause-answer
type_all-returns-in_default-clause-answer g t c = none_answer (g.D.Decider.definitions c.args.decider.now, g.D.Decider.unnamed c.args.decider.now) c.args.gamma.now c.args.span c.args.queries.now c.in_ok-nothing.field-0 (no_length c.args.queries.now c.in_default.ensures.cases) c.in_ok-nothing.ensures

pub type_all-type_of-outcome-requires : goal.type_all-type_of-outcome-requires
type_all-type_of-outcome-requires g t c κs within =
    let split = c.in-Some.ensures.cases.0 in
    let fewer = weight_last c.args.queries.now c.in-Some.others.now c.in-Some.last.now split in
    let lacks = lacks_last (g.D.Decider.unnamed c.args.decider.now) c.args.span c.args.queries.now c.in-Some.others.now c.in-Some.last.now split c.requires.queries_lacks in
    (omega (arith, c.decreases, fewer), (search rules, (c.requires.ready, lacks)))

pub type_all-type_of-first-requires : goal.type_all-type_of-first-requires
type_all-type_of-first-requires g t c κs within =
    let scope : Scope = (g.D.Decider.definitions c.args.decider.now, g.D.Decider.unnamed c.args.decider.now) in
    let b = c.loop-query.invariant.behind in
    let same = left_scope c.loop-query.invariant.left in
    let fewer = weight_inside c.args.queries.now _ _ (b.first ∷ b.others) c.in-Some-query.query.now b.split c.in-Some-query.ensures.steps in
    let lacks = lacks_inside scope.1 c.args.span c.args.queries.now _ _ (b.first ∷ b.others) c.in-Some-query.query.now b.split c.in-Some-query.ensures.steps c.requires.queries_lacks in
    (omega (arith, c.decreases, fewer), (search rules, (ready_same scope _ c.args.gamma.now _ same c.loop-query.invariant.left.gamma c.requires.ready, lacks_same scope _ (query_of c.in-Some-query.query.now) same lacks)))

pub type_all-returns-clause-answer : goal.type_all-returns-clause-answer
type_all-returns-clause-answer g t c = behind_all (g.D.Decider.definitions c.args.decider.now, g.D.Decider.unnamed c.args.decider.now) c.args.gamma.now c.args.span c.args.queries.now _ c.loop-query.outcome (no_length _ c.in-None.ensures.steps.0) c.loop-query.invariant.behind

pub type_all-loop-query-init : goal.type_all-loop-query-init
type_all-loop-query-init g t c = record {
  left = c.type_of-outcome.ensures.left;
  behind = behind_last (g.D.Decider.definitions c.args.decider.now, g.D.Decider.unnamed c.args.decider.now) c.args.gamma.now c.args.span c.args.queries.now _ c.in-Some.others.now c.in-Some.last.now c.type_of-outcome.result (search rules) c.in-Some.ensures.cases.0 c.type_of-outcome.ensures.answer;
}

pub type_all-loop-query-preserved : goal.type_all-loop-query-preserved
type_all-loop-query-preserved g t c =
    let i = c.loop-query.invariant in
    let one = c.type_of-first.ensures in
    let first = answer_same (g.D.Decider.definitions c.args.decider.now, g.D.Decider.unnamed c.args.decider.now) _ c.args.gamma.now _ (query_of c.in-Some-query.query.now) c.type_of-first.result (left_scope i.left) i.left.gamma one.answer in
    record {
      left = left_by_both i.left one.left;
      behind = behind_more (g.D.Decider.definitions c.args.decider.now, g.D.Decider.unnamed c.args.decider.now) c.args.gamma.now c.args.span c.args.queries.now _ _ c.in-Some-query.query.now c.type_of-first.result c.loop-query.outcome c.before-outcome.result c.in-Some-query.ensures.steps i.behind first c.before-outcome.ensures;
    }

pub type_each-type_trees-requires : goal.type_each-type_trees-requires
type_each-type_trees-requires g t c κs within =
    let scope : Scope = (g.D.Decider.definitions c.args.decider.now, g.D.Decider.unnamed c.args.decider.now) in
    let same = left_scope c.in_ok-over.ensures.left in
    let ty = ty_of c.in_ok-over.over.ty.value in
    let ready = ready_same scope _ c.args.gamma.now _ same c.in_ok-over.ensures.left.gamma c.requires.ready in
    let usable = usable_owned scope _ c.in_ok-trees.trees c.in_ok-over.over.ty.value c.in_ok-trees.ensures same (typed_usable scope c.args.gamma.now (query_of c.args.over.now) ty c.requires.ready c.requires.over_lacks c.in_ok-over.ensures.answer c.in_ok-over.over.limits) in
    let lacks = lacks_same scope _ (query_of c.args.step.now.body.now) same c.requires.body_lacks in
    (omega (arith, c.decreases, weight_pos (query_of c.args.over.now)), (search rules, (ready, (lacks, (usable.0, usable.1)))))

pub type_each-returns-clause-answer : goal.type_each-returns-clause-answer
type_each-returns-clause-answer g t c =
    let scope : Scope = (g.D.Decider.definitions c.args.decider.now, g.D.Decider.unnamed c.args.decider.now) in
    let ty = ty_of c.in_ok-trees.trees in
    let h = returning_same scope _ c.args.gamma.now _ c.args.step.now.span.from c.args.step.now.var (query_of c.args.step.now.body.now) ty c.type_trees.result (left_scope c.in_ok-over.ensures.left) c.in_ok-over.ensures.left.gamma c.type_trees.ensures.answer in
    let answer = has_owned scope c.args.gamma.now (query_of c.args.over.now) c.in_ok-trees.trees c.in_ok-over.over.ty.value c.in_ok-trees.ensures c.in_ok-over.ensures.answer in
    each_answer scope c.args.gamma.now c.args.step.now.span c.args.step.now.var (query_of c.args.over.now) (query_of c.args.step.now.body.now) ty c.type_trees.result answer h

pub type_choice-returns-in_err-no-clause-left : goal.type_choice-returns-in_err-no-clause-left
type_choice-returns-in_err-no-clause-left g t c = left_by_both (left_by_both c.in_ok-type_condition.ensures.left c.in_ok-yes.ensures.left) c.in_err-no.ensures.left

pub type_choice-returns-clause-left : goal.type_choice-returns-clause-left
type_choice-returns-clause-left g t c = left_by_both (left_by_both c.in_ok-type_condition.ensures.left c.in_ok-yes.ensures.left) c.in_ok-no.ensures.left

pub type_condition-returns-clause-left : goal.type_condition-returns-clause-left
type_condition-returns-clause-left g t c =
    let found = c.in_ok-found.ensures.left in
    let asked = c.in_ok-included.ensures in
    record {
      definitions = asked.same_definitions ∙ found.definitions;
      other = asked.same_other ∙ found.other;
      keeps = asked.same_keeps ∙ found.keeps;
      still = λ p h. asked.still p (found.still p h);
      gamma = found.gamma;
    }

pub type_trees-returns-in_err-turn-clause-answer : goal.type_trees-returns-in_err-turn-clause-answer
type_trees-returns-in_err-turn-clause-answer g t c =
    let scope : Scope = (g.D.Decider.definitions c.args.decider.now, g.D.Decider.unnamed c.args.decider.now) in
    let f = returning c.args.gamma.now c.args.step.now.var (query_of c.args.step.now.body.now) in
    let at = c.args.step.now.span.from in
    let whole = ty_of c.args.ty in
    answer_mapped scope.0 at (shows scope) f whole c.from_residual.result
    (first_fault (shows scope) scope.0 (Treated scope.0 at f) at whole c.defs.result.now c.new-walk.result.place (frames_in c.new-walk.result) (frames_in c.enter.new.self) c.in_err-turn.field-0.0 c.from_residual.result c.defs.ensures.value c.new-walk.ensures.place c.new-walk.ensures.frames c.in_err-turn.ensures.turn c.from_residual.ensures.1)

pub type_trees-loop-turn-init : goal.type_trees-loop-turn-init
type_trees-loop-turn-init g t c =
    let scope : Scope = (g.D.Decider.definitions c.args.decider.now, g.D.Decider.unnamed c.args.decider.now) in
    let f = returning c.args.gamma.now c.args.step.now.var (query_of c.args.step.now.body.now) in
    record {
      left = record { definitions = refl; other = refl; keeps = refl; still = λ p h. h; gamma = refl };
      place = c.in_ok-turn.ensures.place ∙ c.new-walk.ensures.place;
      waiting = waiting_as scope.0 c.defs.result.now (frames_in c.enter.new.self) c.defs.ensures.value c.in_ok-turn.ensures.waiting;
      labels = turn_labels (λ m. ¬ (m ≡ scope.1)) scope.0 c.defs.result.now c.new-walk.result.place (before (frames_in c.new-walk.result) (ty_of c.args.ty)) (frames_in c.enter.new.self) c.in_ok-turn.turn c.defs.ensures.value c.requires.ready.lacks (labels_before (λ m. ¬ (m ≡ scope.1)) (frames_in c.new-walk.result) (ty_of c.args.ty) c.new-walk.ensures.frames c.requires.lacks) c.in_ok-turn.ensures.turn;
      leads = first_leads scope.0 (Treated scope.0 c.args.step.now.span.from f) c.args.step.now.span.from (ty_of c.args.ty) c.defs.result.now c.new-walk.result.place (frames_in c.new-walk.result) (frames_in c.enter.new.self) c.in_ok-turn.turn c.defs.ensures.value c.new-walk.ensures.place c.new-walk.ensures.frames c.in_ok-turn.ensures.turn;
    }

pub type_trees-returns-in-Over-clause-answer : goal.type_trees-returns-in-Over-clause-answer
type_trees-returns-in-Over-clause-answer g t c =
    let scope : Scope = (g.D.Decider.definitions c.args.decider.now, g.D.Decider.unnamed c.args.decider.now) in
    let f = returning c.args.gamma.now c.args.step.now.var (query_of c.args.step.now.body.now) in
    mapped scope.0 c.args.step.now.span.from f (turn_over scope.0 (Treated scope.0 c.args.step.now.span.from f) c.args.step.now.span.from (ty_of c.args.ty) (frames_in c.loop-turn.walk) c.loop-turn.turn c.in-Over.made c.in-Over.is c.loop-turn.invariant.leads)

pub type_trees-measure-requires : goal.type_trees-measure-requires
type_trees-measure-requires g t c =
    let scope : Scope = (g.D.Decider.definitions c.args.decider.now, g.D.Decider.unnamed c.args.decider.now) in
    let f = returning c.args.gamma.now c.args.step.now.var (query_of c.args.step.now.body.now) in
    (turn_at scope.0 (Treated scope.0 c.args.step.now.span.from f) c.args.step.now.span.from (ty_of c.args.ty) (frames_in c.loop-turn.walk) c.loop-turn.turn c.in-At.tree c.in-At.is c.loop-turn.invariant.leads).1.limits

pub type_trees-returns-in_err-made-in-At-clause-answer : goal.type_trees-returns-in_err-made-in-At-clause-answer
type_trees-returns-in_err-made-in-At-clause-answer g t c =
    let scope : Scope = (g.D.Decider.definitions c.args.decider.now, g.D.Decider.unnamed c.args.decider.now) in
    let q = query_of c.args.step.now.body.now in
    let f = returning c.args.gamma.now c.args.step.now.var q in
    let at = c.args.step.now.span.from in
    let whole = ty_of c.args.ty in
    let gs = frames_in c.loop-turn.walk in
    let a = ty_of c.in-At.tree in
    let h = turn_at scope.0 (Treated scope.0 at f) at whole gs c.loop-turn.turn c.in-At.tree c.in-At.is c.loop-turn.invariant.leads in
    let fault = under_tree scope _ c.args.gamma.now _ c.args.step.now.var c.in_ok-one-in-At.one.ty.value c.in-At.tree q (Err c.in_err-made-in-At.field-0.0) c.in_ok-one-in-At.ensures (left_scope c.loop-turn.invariant.left) c.loop-turn.invariant.left.gamma c.in_err-made-in-At.ensures.answer in
    answer_mapped scope.0 at (shows scope) f whole c.from_residual-in_err-made-in-At.result
    (tree_fault (shows scope) scope.0 (Treated scope.0 at f) at whole gs a c.in_err-made-in-At.field-0.0 c.from_residual-in_err-made-in-At.result h.0 h.2 fault c.from_residual-in_err-made-in-At.ensures.1)

pub type_trees-returns-in_err-turn-in-At-clause-answer : goal.type_trees-returns-in_err-turn-in-At-clause-answer
type_trees-returns-in_err-turn-in-At-clause-answer g t c =
    let scope : Scope = (g.D.Decider.definitions c.args.decider.now, g.D.Decider.unnamed c.args.decider.now) in
    let q = query_of c.args.step.now.body.now in
    let f = returning c.args.gamma.now c.args.step.now.var q in
    let at = c.args.step.now.span.from in
    let whole = ty_of c.args.ty in
    let gs = frames_in c.loop-turn.walk in
    let a = ty_of c.in-At.tree in
    let h = turn_at scope.0 (Treated scope.0 at f) at whole gs c.loop-turn.turn c.in-At.tree c.in-At.is c.loop-turn.invariant.leads in
    let made = under_tree scope _ c.args.gamma.now _ c.args.step.now.var c.in_ok-one-in-At.one.ty.value c.in-At.tree q (Ok c.in_ok-made-in-At.made) c.in_ok-one-in-At.ensures (left_scope c.loop-turn.invariant.left) c.loop-turn.invariant.left.gamma c.in_ok-made-in-At.ensures.answer in
    let same = c.defs-in-At.ensures.value ∙ c.in_ok-made-in-At.ensures.left.definitions ∙ c.loop-turn.invariant.left.definitions in
    answer_mapped scope.0 at (shows scope) f whole c.from_residual-in_err-turn-in-At.result
    (next_fault (shows scope) scope.0 (Treated scope.0 at f) at whole c.defs-in-At.result.now c.loop-turn.walk.place gs (frames_in c.put.new.self) a (ty_of c.in_ok-made-in-At.made.ty.value) c.in_err-turn-in-At.field-0.0 c.from_residual-in_err-turn-in-At.result same c.loop-turn.invariant.place h.0 h.2 made c.in_ok-made-in-At.made.limits c.in_err-turn-in-At.ensures.turn c.from_residual-in_err-turn-in-At.ensures.1)

pub type_trees-loop-turn-smaller : goal.type_trees-loop-turn-smaller
type_trees-loop-turn-smaller g t c =
    let scope : Scope = (g.D.Decider.definitions c.args.decider.now, g.D.Decider.unnamed c.args.decider.now) in
    let f = returning c.args.gamma.now c.args.step.now.var (query_of c.args.step.now.body.now) in
    let gs = frames_in c.loop-turn.walk in
    let h = turn_at scope.0 (Treated scope.0 c.args.step.now.span.from f) c.args.step.now.span.from (ty_of c.args.ty) gs c.loop-turn.turn c.in-At.tree c.in-At.is c.loop-turn.invariant.leads in
    let same = c.defs-in-At.ensures.value ∙ c.in_ok-made-in-At.ensures.left.definitions ∙ c.loop-turn.invariant.left.definitions in
    turn_less scope.0 c.defs-in-At.result.now c.loop-turn.walk.place gs (frames_in c.put.new.self) c.in-At.tree (ty_of c.in_ok-made-in-At.made.ty.value) c.loop-turn.turn c.in_ok-turn-in-At.turn same c.requires.ready.kept c.in-At.is h.0 c.in_ok-turn-in-At.ensures.turn

pub type_trees-loop-turn-preserved : goal.type_trees-loop-turn-preserved
type_trees-loop-turn-preserved g t c =
    let scope : Scope = (g.D.Decider.definitions c.args.decider.now, g.D.Decider.unnamed c.args.decider.now) in
    let q = query_of c.args.step.now.body.now in
    let f = returning c.args.gamma.now c.args.step.now.var q in
    let at = c.args.step.now.span.from in
    let whole = ty_of c.args.ty in
    let gs = frames_in c.loop-turn.walk in
    let a = ty_of c.in-At.tree in
    let h = turn_at scope.0 (Treated scope.0 at f) at whole gs c.loop-turn.turn c.in-At.tree c.in-At.is c.loop-turn.invariant.leads in
    let made = under_tree scope _ c.args.gamma.now _ c.args.step.now.var c.in_ok-one-in-At.one.ty.value c.in-At.tree q (Ok c.in_ok-made-in-At.made) c.in_ok-one-in-At.ensures (left_scope c.loop-turn.invariant.left) c.loop-turn.invariant.left.gamma c.in_ok-made-in-At.ensures.answer in
    let same = c.defs-in-At.ensures.value ∙ c.in_ok-made-in-At.ensures.left.definitions ∙ c.loop-turn.invariant.left.definitions in
    record {
      left = left_by_both c.loop-turn.invariant.left c.in_ok-made-in-At.ensures.left;
      place = c.in_ok-turn-in-At.ensures.place ∙ c.loop-turn.invariant.place;
      waiting = waiting_as scope.0 c.defs-in-At.result.now (frames_in c.put.new.self) same c.in_ok-turn-in-At.ensures.waiting;
      labels = turn_labels (λ m. ¬ (m ≡ scope.1)) scope.0 c.defs-in-At.result.now c.loop-turn.walk.place (behind gs (ty_of c.in_ok-made-in-At.made.ty.value)) (frames_in c.put.new.self) c.in_ok-turn-in-At.turn same c.requires.ready.lacks (labels_at (λ m. ¬ (m ≡ scope.1)) gs c.loop-turn.turn c.in-At.tree c.in-At.is c.loop-turn.invariant.labels).1 c.in_ok-turn-in-At.ensures.turn;
      leads = next_leads scope.0 (Treated scope.0 at f) at whole c.defs-in-At.result.now c.loop-turn.walk.place gs (frames_in c.put.new.self) a (ty_of c.in_ok-made-in-At.made.ty.value) c.in_ok-turn-in-At.turn same c.loop-turn.invariant.place h.0 h.2 made c.in_ok-made-in-At.made.limits c.in_ok-turn-in-At.ensures.turn;
    }

pub type_condition-included-requires-clause-left_lacks : goal.type_condition-included-requires-clause-left_lacks
type_condition-included-requires-clause-left_lacks g t c =
    let scope : Scope = (g.D.Decider.definitions c.args.decider.now, g.D.Decider.unnamed c.args.decider.now) in
    let usable = typed_usable scope c.args.gamma.now (query_of c.args.condition.now) (ty_of c.in_ok-found.found.ty.value) c.requires.ready c.requires.condition_lacks c.in_ok-found.ensures.answer c.in_ok-found.found.limits in
    (usable_owned scope _ c.as_ref.result.now c.in_ok-found.found.ty.value c.as_ref.ensures (left_scope c.in_ok-found.ensures.left) usable).1

pub type_number-included-requires-clause-left_known : goal.type_number-included-requires-clause-left_known
type_number-included-requires-clause-left_known g t c =
    let scope : Scope = (g.D.Decider.definitions c.args.decider.now, g.D.Decider.unnamed c.args.decider.now) in
    let usable = typed_usable scope c.args.gamma.now (query_of c.args.number.now) (ty_of c.in_ok-found.found.ty.value) c.requires.ready c.requires.number_lacks c.in_ok-found.ensures.answer c.in_ok-found.found.limits in
    (usable_owned scope _ c.as_ref.result.now c.in_ok-found.found.ty.value c.as_ref.ensures (left_scope c.in_ok-found.ensures.left) usable).0.known

pub type_number-included-requires-clause-left_lacks : goal.type_number-included-requires-clause-left_lacks
type_number-included-requires-clause-left_lacks g t c =
    let scope : Scope = (g.D.Decider.definitions c.args.decider.now, g.D.Decider.unnamed c.args.decider.now) in
    let usable = typed_usable scope c.args.gamma.now (query_of c.args.number.now) (ty_of c.in_ok-found.found.ty.value) c.requires.ready c.requires.number_lacks c.in_ok-found.ensures.answer c.in_ok-found.found.limits in
    (usable_owned scope _ c.as_ref.result.now c.in_ok-found.found.ty.value c.as_ref.ensures (left_scope c.in_ok-found.ensures.left) usable).1

pub type_number-returns-clause-left : goal.type_number-returns-clause-left
type_number-returns-clause-left g t c =
    let found = c.in_ok-found.ensures.left in
    let asked = c.in_ok-included.ensures in
    record {
      definitions = asked.same_definitions ∙ found.definitions;
      other = asked.same_other ∙ found.other;
      keeps = asked.same_keeps ∙ found.keeps;
      still = λ p h. asked.still p (found.still p h);
      gamma = found.gamma;
    }

pub type_number-returns-in_err-found-clause-fault : goal.type_number-returns-in_err-found-clause-fault
type_number-returns-in_err-found-clause-fault g t c = number_passed (g.D.Decider.definitions c.args.decider.now, g.D.Decider.unnamed c.args.decider.now) c.args.gamma.now (query_of c.args.number.now) c.in_err-found.field-0.0 c.from_residual.result c.in_err-found.ensures.answer c.from_residual.ensures.1

pub type_number-returns-clause-fault : goal.type_number-returns-clause-fault
type_number-returns-clause-fault g t c =
    let scope : Scope = (g.D.Decider.definitions c.args.decider.now, g.D.Decider.unnamed c.args.decider.now) in
    let found = c.in_ok-found.ensures in
    let answer = has_owned scope c.args.gamma.now (query_of c.args.number.now) c.as_ref.result.now c.in_ok-found.found.ty.value c.as_ref.ensures found.answer in
    number_refused scope _ c.args.gamma.now (query_of c.args.number.now) c.place.result (ty_of c.as_ref.result.now) (Atom kind.Int) c.in_ok-included.field-0 c.in-No.shown answer (left_scope found.left) c.place.ensures refl c.in-No.is c.in_ok-included.ensures.verdict

pub type_less-type_number-requires : goal.type_less-type_number-requires
type_less-type_number-requires g t c κs within = (omega (arith, c.decreases, weight_pos (query_of c.args.right.now)), (search rules, (c.requires.ready, c.requires.left_lacks)))

pub type_less-type_number-requires-2 : goal.type_less-type_number-requires-2
type_less-type_number-requires-2 g t c κs within =
    let scope : Scope = (g.D.Decider.definitions c.args.decider.now, g.D.Decider.unnamed c.args.decider.now) in
    let same = left_scope c.in_ok-type_number.ensures.left in
    (omega (arith, c.decreases, weight_pos (query_of c.args.left.now)), (search rules, (ready_same scope _ c.args.gamma.now _ same c.in_ok-type_number.ensures.left.gamma c.requires.ready, lacks_same scope _ (query_of c.args.right.now) same c.requires.right_lacks)))

pub type_of-returns-in-Less-clause-answer : goal.type_of-returns-in-Less-clause-answer
type_of-returns-in-Less-clause-answer g t c = answer_at (g.D.Decider.definitions c.args.decider.now, g.D.Decider.unnamed c.args.decider.now) c.args.gamma.now (query_of c.args.query.now) _ c.type_less.result (of_less c.args.query.now c.in-Less.left c.in-Less.right c.get-in-Less.result.now c.get-in-Less-2.result.now c.in-Less.field-2 c.in-Less.is c.get-in-Less.ensures c.get-in-Less-2.ensures) (c.type_less.ensures.answer c.in-Less.field-2)

pub type_less-returns-clause-answer : goal.type_less-returns-clause-answer
type_less-returns-clause-answer g t c = λ at.
    let scope : Scope = (g.D.Decider.definitions c.args.decider.now, g.D.Decider.unnamed c.args.decider.now) in
    let one = c.in_ok-type_number.ensures in
    let right = number_same scope _ c.args.gamma.now _ (query_of c.args.right.now) (left_scope one.left) one.left.gamma c.in_ok-type_number-2.ensures.answer in
    less_answer scope c.args.gamma.now at (query_of c.args.left.now) (query_of c.args.right.now) c.in_ok-made.made one.answer right c.in_ok-made.ensures

pub type_trees-type_under-requires : goal.type_trees-type_under-requires
type_trees-type_under-requires g t c κs within =
    let scope : Scope = (g.D.Decider.definitions c.args.decider.now, g.D.Decider.unnamed c.args.decider.now) in
    let i = c.loop-turn.invariant in
    let same = left_scope i.left in
    let q = query_of c.args.step.now.body.now in
    let f = returning c.args.gamma.now c.args.step.now.var q in
    let gs = frames_in c.loop-turn.walk in
    let h = turn_at scope.0 (Treated scope.0 c.args.step.now.span.from f) c.args.step.now.span.from (ty_of c.args.ty) gs c.loop-turn.turn c.in-At.tree c.in-At.is i.leads in
    let labels = labels_at (λ m. ¬ (m ≡ scope.1)) gs c.loop-turn.turn c.in-At.tree c.in-At.is i.labels in
    let usable = usable_owned scope _ c.in_ok-one-in-At.one.ty.value c.in-At.tree c.in_ok-one-in-At.ensures same (h.1, labels.0) in
    let ready = ready_same scope _ c.args.gamma.now _ same i.left.gamma c.requires.ready in
    (omega (arith, c.decreases), (search rules, (ready, (lacks_same scope _ q same c.requires.body_lacks, (usable.0, usable.1)))))
