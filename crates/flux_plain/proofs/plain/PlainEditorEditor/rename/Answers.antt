use Rattle.std.proofs.Common.{ap₂}
use Rattle.flux_plain.specs.Moves.{state}
use Rattle.flux_plain.proofs.PastLaws.{kept_past}
use Rattle.flux_plain.proofs.plain.PlainEditorEditor.rename.Goals as goal

pub returns-clause-ok : goal.returns-clause-ok
returns-clause-ok c =
    let kept = c.in_ok-remember_label.ensures.ok in
    let r = c.rename.ensures in (
      tt,
      r.0,
      r.1,
      r.2,
      ap₂ state (kept_past c.args.self.now.earlier.items c.remember_label.new.earlier.items kept.0 c.args.self.now.current c.rename.new.self kept.1 (kept.2 c.args.name c.rename.new.self r)) r.3,
    )
