use Rattle.std.proofs.Common.{Some, ap, sym, ◌∙◌}
use Rattle.std.proofs.Math.ListN.{set}
use Rattle.flux_types.specs.Kept.{declarations_of}
use Rattle.flux_types.specs.declared.draft.Entry.{Entry}
use Rattle.flux_types.proofs.KeptLaws.{put_body}
use Rattle.flux_types.proofs.draft.put_body.Goals as goal

pub returns : goal.returns
returns c =
    let at = c.index-entries-index in
    ap (λ (a : Entry). declarations_of (set c.args.entries.now c.args.index record { name = a.name; body = Some c.args.body })) (sym at.is)
    ∙ put_body c.args.entries.now c.args.index at.result c.args.body c.requires at.is
