use Rattle.std.proofs.Common.{◌∙◌, map, sym, ap, subst, List, arith}
use Rattle.std.proofs.lemmas.List.{get_or-map, length-map}
use Rattle.flux_auto.specs.declared.edge.Edge.{Edge}
use Rattle.flux_auto.specs.declared.table.Row.{Row}
use Rattle.flux_auto.specs.Arcs.{Adds}
use Rattle.flux_auto.specs.Built.{state_of}
use Rattle.flux_auto.proofs.ArcLaws.{index_next}
use Rattle.flux_auto.proofs.sets.arcs_of.Goals as goal

pub loop-source-preserved : goal.loop-source-preserved
loop-source-preserved c =
    let rows = c.args.rows.now in
    let row = c.index-rows-source.result in
    index_next (map state_of rows) c.loop-source.arcs c.add_all.new.self c.loop-source.source (state_of row) c.loop-source.invariant (omega (arith, c.loop-source-test.true, length-map rows state_of)) (ap state_of c.index-rows-source.is ∙ sym (get_or-map state_of rows c.loop-source.source row (state_of row) (omega (arith, c.loop-source-test.true))))
    (subst (λ (es : List Edge). Adds c.loop-source.arcs c.add_all.new.self c.loop-source.source es) (c.as_slice.ensures.value ∙ ap (λ (r : Row). r.edges.items) (sym c.index-rows-source.is)) c.in_ok-add_all.ensures)
