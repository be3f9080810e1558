use Rattle.std.proofs.Common.{◌-◌, ◌∙◌, sym, ap, length, arith, refl}
use Rattle.std.specs.Option.{option_map}
use Rattle.flux_schema.specs.Definitions.{declared_names}
use Rattle.flux_types.specs.declared.ty.Ty.TheVariants.{Named}
use Rattle.flux_types.specs.Read.{ty_of}
use Rattle.flux_types.proofs.Variants.{of_named as read_named}
use Rattle.flux_grammar.specs.TypeOf.{type_in, under_marks}
use Rattle.flux_normal.proofs.TypeTexts.{of_marked, of_named}
use Rattle.flux_normal.proofs.Firsts.{part_known}
use Rattle.flux_normal.proofs.Makings.{marked_made, made_named, made_before}
use Rattle.flux_normal.proofs.written.+made.Goals as goal

pub made-returns-in_ok-inner-in-Marked : goal.made-returns-in_ok-inner-in-Marked
made-returns-in_ok-inner-in-Marked t c =
    let names = declared_names c.args.known.now in
    let arm = c.in-Marked in
    marked_made (length names) (type_in names c.get.result.now) (type_in names c.args.ty.now) c.in_ok-inner-in-Marked.inner arm.marks c.as_slice-in-Marked.result.now c.made_marked.result
    (ap (type_in names) arm.is ∙ of_marked names arm.inner arm.marks arm.field-2 ∙ ap (λ t. option_map (λ w. under_marks w arm.marks) (type_in names t)) (sym c.get.ensures)) c.as_slice-in-Marked.ensures c.in_ok-inner-in-Marked.ensures c.made_marked.ensures

pub made-returns-in-Some : goal.made-returns-in-Some
made-returns-in-Some t c =
    let names = declared_names c.args.known.now in
    made_named names c.in-Named.name c.in-Some.index c.lookup.result (type_in names c.args.ty.now) (ty_of (Named c.in-Some.index)) (ap (type_in names) c.in-Named.is ∙ of_named names c.in-Named.name c.in-Named.field-1) (read_named (Named c.in-Some.index) c.in-Some.index refl) c.lookup.ensures c.in-Some.is

pub made_list-loop-index-init : goal.made_list-loop-index-init
made_list-loop-index-init t c = record {
  within = omega arith;
  declared = λ i part lt is. part_known (declared_names c.args.known.now) c.args.parts.now i part lt is c.requires;
  so_far = omega arith;
}

pub made_list-loop-index-preserved : goal.made_list-loop-index-preserved
made_list-loop-index-preserved t c = record {
  within = omega arith;
  declared = c.loop-index.invariant.declared;
  so_far = made_before (declared_names c.args.known.now) c.args.join.now c.args.parts.now c.loop-index.index (c.loop-index.index - 1) c.index-parts-index.result c.in_ok-part.part c.in_ok-put_before.field-0 c.loop-index.whole (omega arith) (omega arith) c.index-parts-index.is c.loop-index.invariant.so_far c.in_ok-part.ensures c.in_ok-put_before.ensures.last c.in_ok-put_before.ensures.joined;
}
