use Rattle.std.proofs.Common.{◌∙◌, map, sym, ap, arith}
use Rattle.std.proofs.lemmas.List.{get_or-map, length-map}
use Rattle.flux_auto.specs.declared.table.Row.{Row}
use Rattle.flux_auto.specs.Built.{state_of}
use Rattle.flux_auto.proofs.ArcLaws.{ends_next}
use Rattle.flux_auto.proofs.sets.set_of_nil.Goals as goal
use Rattle.flux_auto.proofs.sets.set_of_nil.Goals.{then-rows-state, else-rows-state}

pub loop-state-preserved : goal.loop-state-preserved
loop-state-preserved c =
    let rows = c.args.rows.now in
    let row = c.index-rows-state.result in
    let is = ap state_of c.index-rows-state.is ∙ sym (get_or-map state_of rows c.loop-state.state row (state_of row) (omega (arith, c.loop-state-test.true))) in
    let ends = ap (λ (r : Row). r.ends) c.index-rows-state.is in
    elim c.if-rows-state.branch [
      | then-rows-state w ↦ ends_next (map state_of rows) c.loop-state.state (state_of row) _ c.loop-state.set c.if-rows-state.set (omega (arith, c.loop-state-test.true, length-map rows state_of)) is (ends ∙ w.if-rows-state.true) c.loop-state.invariant (w.set-is ∙ w.insert.ensures)
      | else-rows-state w ↦ ends_next (map state_of rows) c.loop-state.state (state_of row) _ c.loop-state.set c.if-rows-state.set (omega (arith, c.loop-state-test.true, length-map rows state_of)) is (ends ∙ w.if-rows-state.false) c.loop-state.invariant w.set-is
    ]
