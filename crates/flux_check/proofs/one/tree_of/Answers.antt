use Rattle.flux_check.proofs.OneTrees.{stands_for_itself, stands_for_none, stands_for_copy, one_within}
use Rattle.flux_check.proofs.one.tree_of.Goals as goal

pub returns-then-is_one : goal.returns-then-is_one
returns-then-is_one c = stands_for_itself c.args.defs.now c.args.ty.ty.value c.as_ref.result.now c.is_one.result c.as_ref.ensures c.is_one.ensures c.if-is_one.true

pub returns-in_default : goal.returns-in_default
returns-in_default c = stands_for_none c.args.defs.now c.args.ty.ty.value c.as_ref-2.result.now c.as_ref-2.ensures c.in_default.ensures.none

pub copied-requires : goal.copied-requires
copied-requires c = one_within c.args.defs.now c.args.ty.ty.value c.as_ref-2.result.now c.in-Some.one.now c.requires.defs c.as_ref-2.ensures c.in-Some.ensures.found c.requires.usable.limits

pub returns : goal.returns
returns c = stands_for_copy c.args.defs.now c.args.ty.ty.value c.as_ref-2.result.now c.in-Some.one.now c.in_ok-copied.field-0.ty.value c.as_ref-2.ensures c.in-Some.ensures.found c.in_ok-copied.ensures
