use Rattle.std.proofs.Common.{refl, subst, Vec, List}
use Rattle.std.specs.declared.alloc.Global.{Global}
use Rattle.flux_auto.specs.declared.arcs.Arc.{Arc}
use Rattle.flux_auto.specs.Arcs.{ArcMore, Lists}
use Rattle.flux_auto.proofs.ArcLaws.{adds_arc}
use Rattle.flux_auto.proofs.arcs.add_arc.Goals as goal

pub returns : goal.returns
returns c =
    let a = c.args.arcs.now in
    let vs = c.make_place.new.by_label.items in
    adds_arc a _ vs c.args.label c.number-number.result c.args.source c.args.content c.args.next c.of-sources.result c.push_arc.new.arcs c.index_mut.result.now c.index.result.now c.in_ok-make_place.ensures.same c.number-number.ensures c.in_ok-make_place.ensures.there c.of-sources.ensures
    (subst (λ (v : Vec Arc Global). ArcMore v.items (record { sources = c.of-sources.result; content = c.args.content; next = c.args.next }) c.push_arc.new.arcs.items) c.index_mut.ensures.value c.in_ok-push_arc.ensures) c.index.ensures
    (subst (λ (l : List Arc). Lists a.labels.items c.list.new.labels.items c.args.label l) c.as_slice.ensures.value c.in_ok-list.ensures) refl refl refl refl refl
