use Rattle.std.proofs.Common.{◌≡◌, ◌∙◌, sym, subst, ap, length, arith}
use Rattle.flux_types.proofs.KeptLaws.{take_whole}
use Rattle.flux_auto.specs.Marking.{MarksSound}
use Rattle.flux_auto.specs.Standing.{TellsNullable}
use Rattle.flux_auto.proofs.Marking.{tells_all}
use Rattle.flux_auto.proofs.nullable.nullable_names.Goals as goal

pub loop-init : goal.loop-init
loop-init c = (c.in_ok-nullable.ensures.even, c.in_ok-nullable.ensures.sound)

pub loop-preserved : goal.loop-preserved
loop-preserved c =
    let whole : length c.mark_more.new.nullable ≡ c.loop.nullable.len = omega (arith, c.mark_more.auto.nullable, c.deref_mut.ensures.len) in
    let e = sym (take_whole c.mark_more.new.nullable _ c.loop.nullable.len whole) in (
      ap length (sym e) ∙ c.mark_more.auto.nullable ∙ ap length c.deref_mut.ensures.value ∙ c.loop.invariant.0,
      subst (MarksSound c.args.defs.now) e (c.mark_more.ensures.sound (subst (MarksSound c.args.defs.now) (sym c.deref_mut.ensures.value) c.loop.invariant.1)),
    )

pub returns : goal.returns
returns c =
    let whole : length c.mark_more.new.nullable ≡ c.loop.nullable.len = omega (arith, c.mark_more.auto.nullable, c.deref_mut.ensures.len) in
    let e = sym (take_whole c.mark_more.new.nullable _ c.loop.nullable.len whole) in
    subst (TellsNullable c.args.defs.now) e (tells_all c.args.defs.now c.deref_mut.result.now c.mark_more.new.nullable c.mark_more.result (subst (MarksSound c.args.defs.now) (sym c.deref_mut.ensures.value) c.loop.invariant.1) c.mark_more.ensures c.loop-test.false)
