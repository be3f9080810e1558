use Rattle.flux_types.specs.Read.{ty_of}
use Rattle.flux_types.proofs.DefsLaws.{known_at_top}
use Rattle.flux_calculus.specs.Typing.{of_no_child, of_many_child}
use Rattle.flux_querytype.proofs.Leaves.{any_content_copied, any_content_within, content_copied, atom_content, content_within, never_many}
use Rattle.flux_querytype.proofs.leaf.type_child.Goals as goal

pub single-requires : goal.single-requires
single-requires c = known_at_top c.args.defs.now (ty_of c.in-Some.ty.now) (c.requires.usable c.args.var.now (ty_of c.in-Some.ty.now) c.in-Some.ensures.some).known

pub returns-in_default : goal.returns-in_default
returns-in_default c = of_no_child c.in_default.ensures.none

pub returns-in_default-single : goal.returns-in_default-single
returns-in_default-single c = of_many_child c.in-Some.ensures.some c.in_default-single.ensures.none

pub copied-requires : goal.copied-requires
copied-requires c =
    let usable = c.requires.usable c.args.var.now (ty_of c.in-Some.ty.now) c.in-Some.ensures.some in
    content_within c.args.defs.now (ty_of c.in-Some.ty.now) c.in-Some-single.one.now c.get-in-Elem.result.now c.in-Elem.content c.in-Elem.field-0 c.requires.defs c.in-Some-single.ensures.found usable.limits c.in-Elem.is c.get-in-Elem.ensures

pub unreachable-requires : goal.unreachable-requires
unreachable-requires c = never_many c.args.defs.now (ty_of c.in-Some.ty.now) c.in-Some-single.one.now c.in-Some-single.ensures.found c.in-Empty.is

pub returns-in_ok-copied-in-Elem : goal.returns-in_ok-copied-in-Elem
returns-in_ok-copied-in-Elem c =
    let made = c.in_ok-copied-in-Elem in
    content_copied c.args.defs.now c.args.gamma.now c.args.span.now c.args.var.now made.field-0.ty.value c.in-Some-single.one.now c.get-in-Elem.result.now c.in-Elem.content c.in-Elem.field-0 (ty_of c.in-Some.ty.now) c.in-Some.ensures.some c.in-Some-single.ensures.found c.in-Elem.is c.get-in-Elem.ensures made.ensures

pub returns-in_ok-nothing-in-Atom : goal.returns-in_ok-nothing-in-Atom
returns-in_ok-nothing-in-Atom c =
    atom_content c.args.defs.now c.args.gamma.now c.args.span.now c.args.var.now c.in_ok-nothing-in-Atom.field-0.ty.value c.in-Some-single.one.now c.in-Atom.field-0 (ty_of c.in-Some.ty.now) c.in-Some.ensures.some c.in-Some-single.ensures.found c.in-Atom.is c.in_ok-nothing-in-Atom.ensures

pub copied-requires-in-AnyElem : goal.copied-requires-in-AnyElem
copied-requires-in-AnyElem c =
    let usable = c.requires.usable c.args.var.now (ty_of c.in-Some.ty.now) c.in-Some.ensures.some in
    any_content_within c.args.defs.now (ty_of c.in-Some.ty.now) c.in-Some-single.one.now c.get-in-AnyElem.result.now c.in-AnyElem.content c.requires.defs c.in-Some-single.ensures.found usable.limits c.in-AnyElem.is c.get-in-AnyElem.ensures

pub returns-in_ok-copied-in-AnyElem : goal.returns-in_ok-copied-in-AnyElem
returns-in_ok-copied-in-AnyElem c =
    let made = c.in_ok-copied-in-AnyElem in
    any_content_copied c.args.defs.now c.args.gamma.now c.args.span.now c.args.var.now made.field-0.ty.value c.in-Some-single.one.now c.get-in-AnyElem.result.now c.in-AnyElem.content (ty_of c.in-Some.ty.now) c.in-Some.ensures.some c.in-Some-single.ensures.found c.in-AnyElem.is c.get-in-AnyElem.ensures made.ensures
