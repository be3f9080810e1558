use Rattle.std.proofs.Common.{sym, ◌∙◌}
use Rattle.flux_schema.specs.Definitions.{declared_names}
use Rattle.flux_normal.proofs.Firsts.{among_here, among_more}
use Rattle.flux_normal.proofs.written.+unknown_in.Goals as goal

pub unknown_among-returns-in-Some : goal.unknown_among-returns-in-Some
unknown_among-returns-in-Some t c =
    sym (among_here (declared_names c.args.known.now) c.args.parts.now c.loop-part.part-index c.part-item.result c.in-Some.place c.loop-part-test.true c.part-item.is c.loop-part.invariant (sym c.unknown_in.ensures ∙ c.in-Some.is))

pub unknown_among-loop-part-preserved : goal.unknown_among-loop-part-preserved
unknown_among-loop-part-preserved t c =
    among_more (declared_names c.args.known.now) c.args.parts.now c.loop-part.part-index c.part-item.result c.loop-part-test.true c.part-item.is c.loop-part.invariant (sym c.unknown_in.ensures ∙ c.in_default.is)
