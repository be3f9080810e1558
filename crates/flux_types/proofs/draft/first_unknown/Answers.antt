use Rattle.std.proofs.Common.{ap, sym, ◌∙◌, arith}
use Rattle.std.specs.Option.{option_map}
use Rattle.flux_schema.specs.Definitions.{LacksBody}
use Rattle.flux_types.specs.Read.{ty_of}
use Rattle.flux_types.specs.Kept.{declarations_of}
use Rattle.flux_types.proofs.KeptLaws.{below_next, body_here, length-declarations, none_is, some_maps}
use Rattle.flux_types.proofs.draft.first_unknown.Goals as goal

pub loop-index-init : goal.loop-index-init
loop-index-init c = λ x lt. absurd (omega (arith, lt))

pub returns-then-is_none-clause-found : goal.returns-then-is_none-clause-found
returns-then-is_none-clause-found c = record {
  holds = (
    omega (arith, length-declarations c.args.entries.now, c.loop-index-test.true),
    body_here c.args.entries.now c.loop-index.index c.index-entries-index.result c.loop-index-test.true c.index-entries-index.is ∙ ap (option_map ty_of) (none_is _ _ c.is_none.ensures c.if-is_none.true),
  );
  least = c.loop-index.invariant;
}

pub loop-index-preserved : goal.loop-index-preserved
loop-index-preserved c =
    below_next (LacksBody (declarations_of c.args.entries.now)) c.loop-index.index c.loop-index.invariant
    (λ h. some_maps ty_of _ _ c.is_none.ensures c.if-is_none.false (sym (body_here c.args.entries.now c.loop-index.index c.index-entries-index.result c.loop-index-test.true c.index-entries-index.is) ∙ h.1))

pub returns-clause-none : goal.returns-clause-none
returns-clause-none c = λ x h. c.loop-index.invariant x (omega (arith, h.0, length-declarations c.args.entries.now, c.loop-index-test.false)) h
