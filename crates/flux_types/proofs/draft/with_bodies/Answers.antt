use Rattle.std.proofs.Common.{◌∙◌, sym, ap, ◌++◌, map}
use Rattle.std.specs.Option.{option_map}
use Rattle.flux_schema.specs.Definitions.{as_declared}
use Rattle.flux_types.specs.Read.{ty_of}
use Rattle.flux_types.specs.Kept.{declarations_of, definitions_of}
use Rattle.flux_types.proofs.KeptLaws.{push_kept, all_kept, never_lacks}
use Rattle.flux_types.proofs.draft.with_bodies.Goals as goal

pub loop-entry-init : goal.loop-entry-init
loop-entry-init c = rw c.new-kept.ensures.items (ap declarations_of c.into_iter-entry-iterator.ensures.into_iter_gives.0)

pub loop-entry-preserved-in-Continue-1 : goal.loop-entry-preserved-in-Continue-1
loop-entry-preserved-in-Continue-1 c =
    push_kept c.loop-entry.kept.items c.push.new.self.items _ c.in-Some.entry c.loop-entry.entry-iterator.rest.items c.next.new.self.rest.items c.args.entries.items c.in_ok-push.ensures.items c.in-Some.ensures.steps.0 (ap (λ b. record { name = c.in-Some.entry.name; body = option_map ty_of b }) (sym c.in-Some-body.is)) c.loop-entry.invariant

pub loop-entry-preserved : goal.loop-entry-preserved
loop-entry-preserved c =
    absurd (never_lacks (map as_declared (definitions_of c.loop-entry.kept.items)) c.in-Some.entry c.next.new.self.rest.items c.args.entries.items (ap (λ es. map as_declared (definitions_of c.loop-entry.kept.items) ++ declarations_of es) (sym c.in-Some.ensures.steps.0) ∙ c.loop-entry.invariant) c.in_default.is c.requires)

pub returns : goal.returns
returns c = all_kept c.loop-entry.kept.items c.loop-entry.entry-iterator.rest.items c.args.entries.items (let r = c.loop-entry.entry-iterator.rest in sym r.ok.0 ∙ c.in-None.ensures.steps.0) c.loop-entry.invariant
