use Rattle.std.proofs.Common.{◌∙◌, sym}
use Rattle.flux_doctext.proofs.Signs.{continues_ascii}
use Rattle.flux_doctext.proofs.DocumentLaws.{named_next}
use Rattle.flux_doctext.proofs.reader.pass_name.Goals as goal

pub push_byte-requires : goal.push_byte-requires
push_byte-requires c = continues_ascii _ (sym c.can_continue.ensures ∙ c.if-not-can_continue.false)

pub loop-place-preserved : goal.loop-place-preserved
loop-place-preserved c =
    let next = named_next _ _ _ c.args.bytes.now c.loop-place.place c.loop-place-test.true (sym c.can_continue.ensures ∙ c.if-not-can_continue.false) c.loop-place.invariant.name c.loop-place.invariant.longer c.in_ok-push_byte.ensures in
    record { name = next.0; longer = next.1 }
