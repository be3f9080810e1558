use Rattle.std.proofs.Common.{◌≡◌, ◌∙◌, sym, subst, ap, length, arith}
use Rattle.flux_types.proofs.KeptLaws.{take_whole}
use Rattle.flux_auto.specs.Marking.{MarksSound}
use Rattle.flux_auto.proofs.Marking.{sound_begins}
use Rattle.flux_auto.proofs.nullable.marked_along.Goals as goal

pub returns : goal.returns
returns c =
    let defs = c.args.defs.now in
    let old = c.in_ok-nullable.nullable in
    let new = c.mark_along.new.nullable in
    let begins = sound_begins defs old.items _ (c.in_ok-nullable.ensures.items_if_clones_equal (λ y h. h)) in
    let whole : length new ≡ old.len = omega (arith, c.mark_along.auto.nullable, c.deref_mut.ensures.len) in
    let e = sym (take_whole new _ old.len whole) in
    record {
      even = ap length (sym e) ∙ omega (arith, whole, c.in_ok-nullable.ensures.len, c.len.ensures.count);
      sound = subst (MarksSound defs) e (c.mark_along.ensures (subst (MarksSound defs) (sym c.deref_mut.ensures.value) begins));
    }
