use Rattle.std.proofs.Common.{◌∙◌, sym, ap, ap₂, Vec, List, ℕ}
use Rattle.std.specs.declared.alloc.Global.{Global}
use Rattle.flux_auto.specs.declared.arcs.Arc.{Arc}
use Rattle.flux_auto.specs.Arcs.{arcs_at}
use Rattle.flux_auto.proofs.ArcLaws.{arcs_at_here, arcs_at_end}
use Rattle.flux_auto.proofs.arcs.Arcs.for_label.Goals as goal

pub returns-in-Some : goal.returns-in-Some
returns-in-Some c =
    let h = c.in-Some.ensures.lookup in
    c.as_slice.ensures.value ∙ ap (λ (v : Vec Arc Global). v.items) h.1 ∙ sym (arcs_at_here c.deref.result.now c.number.result c.in-Some.arcs.now h.3.0)
    ∙ ap₂ (λ (vs : List (Vec Arc Global)) (n : ℕ). arcs_at vs n) c.deref.ensures.value c.number.ensures

pub returns-in-None : goal.returns-in-None
returns-in-None c =
    let h = c.in-None.ensures.lookup in
    sym (arcs_at_end c.deref.result.now c.number.result h.3) ∙ ap₂ (λ (vs : List (Vec Arc Global)) (n : ℕ). arcs_at vs n) c.deref.ensures.value c.number.ensures
