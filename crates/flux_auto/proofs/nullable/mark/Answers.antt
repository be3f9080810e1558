use Rattle.std.proofs.Common.{◌∙◌, sym, arith}
use Rattle.flux_types.specs.Read.{ty_of}
use Rattle.flux_auto.proofs.Marking.{marked_now, marked_before, not_marked}
use Rattle.flux_auto.proofs.nullable.mark.Goals as goal

pub returns-then-nullable-index : goal.returns-then-nullable-index
returns-then-nullable-index c = marked_before c.args.defs.now c.args.nullable.now c.args.index c.if-nullable-index.true

pub returns-then-not-is_nullable : goal.returns-then-not-is_nullable
returns-then-not-is_nullable c = not_marked c.args.defs.now c.args.nullable.now c.args.index (ty_of c.unfold.result.now) c.unfold.ensures.body (sym c.is_nullable.ensures ∙ c.if-not-is_nullable.true)

pub returns : goal.returns
returns c =
    marked_now c.args.defs.now c.args.nullable.now c.args.index (ty_of c.unfold.result.now) (omega (arith, c.requires.known, c.requires.even)) c.if-nullable-index.false c.unfold.ensures.body (sym c.is_nullable.ensures ∙ c.if-not-is_nullable.false)
