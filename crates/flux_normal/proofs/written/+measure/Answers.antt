use Rattle.std.proofs.Common.{◌-◌, arith}
use Rattle.flux_normal.proofs.Measured.{measures_alt, measures_seq, measures_group, measures_elem, measures_any, measures_name}
use Rattle.flux_normal.proofs.Extents.{so_far_before, all_so_far, stops_as}
use Rattle.flux_normal.proofs.written.+measure.Goals as goal

pub measure-returns-in-Alt : goal.measure-returns-in-Alt
measure-returns-in-Alt t c = λ names.
    measures_alt names c.args.ty.now c.in-Alt.parts c.as_slice.result.now c.in-Alt.field-1 c.measure_list.result c.in-Alt.is c.as_slice.ensures c.measure_list.ensures

pub measure-returns-in-Seq : goal.measure-returns-in-Seq
measure-returns-in-Seq t c = λ names.
    measures_seq names c.args.ty.now c.in-Seq.parts c.as_slice-in-Seq.result.now c.in-Seq.field-1 c.measure_list-in-Seq.result c.in-Seq.is c.as_slice-in-Seq.ensures c.measure_list-in-Seq.ensures

pub measure-returns-in-Group : goal.measure-returns-in-Group
measure-returns-in-Group t c = λ names.
    measures_group names c.args.ty.now c.in-Group.content c.in-Group.field-1 c.measure_inside.result c.in-Group.is (c.measure_inside.ensures names)

pub measure-returns-in-Elem : goal.measure-returns-in-Elem
measure-returns-in-Elem t c = λ names.
    measures_elem names c.args.ty.now c.in-Elem.field-0 c.in-Elem.content c.in-Elem.field-2 c.measure_inside-in-Elem.result c.over.result c.in-Elem.is c.over.ensures.none c.over.ensures.measured (c.measure_inside-in-Elem.ensures names)

pub measure-returns-in-AnyElem : goal.measure-returns-in-AnyElem
measure-returns-in-AnyElem t c = λ names.
    measures_any names c.args.ty.now c.in-AnyElem.content c.in-AnyElem.field-1 c.measure_inside-in-AnyElem.result c.over-in-AnyElem.result c.in-AnyElem.is c.over-in-AnyElem.ensures.none c.over-in-AnyElem.ensures.measured (c.measure_inside-in-AnyElem.ensures names)

pub measure-returns-in-Named : goal.measure-returns-in-Named
measure-returns-in-Named t c = λ names.
    measures_name names c.args.ty.now c.in-Named.field-0 c.in-Named.field-1 c.leaf-in-Named.result c.in-Named.is c.leaf-in-Named.ensures.nodes c.leaf-in-Named.ensures.levels

pub measure_list-returns-in_err-measure : goal.measure_list-returns-in_err-measure
measure_list-returns-in_err-measure t c =
    stops_as c.args.parts.now (c.loop-index.index - 1) c.index-parts-index.result c.from_residual.result c.from_residual.ensures (omega arith) c.index-parts-index.is c.in_err-measure.ensures

pub measure_list-loop-index-preserved : goal.measure_list-loop-index-preserved
measure_list-loop-index-preserved t c = record {
  within = omega arith;
  so_far = so_far_before c.args.parts.now c.loop-index.index (c.loop-index.index - 1) c.index-parts-index.result c.in_ok-measure.field-0 c.before-in-loop-index.result c.loop-index.whole (omega arith) (omega arith) c.index-parts-index.is c.loop-index.invariant.so_far c.in_ok-measure.ensures c.before-in-loop-index.ensures.last c.before-in-loop-index.ensures.joined;
}

pub measure_list-returns : goal.measure_list-returns
measure_list-returns t c = all_so_far c.args.parts.now c.loop-index.index c.loop-index.whole (omega arith) c.loop-index.invariant.so_far
