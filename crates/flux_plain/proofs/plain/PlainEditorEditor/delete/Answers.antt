use Rattle.std.proofs.Common.{ap₂, sym, ◌∙◌}
use Rattle.flux_plain.specs.Moves.{state, whole}
use Rattle.flux_plain.proofs.PastLaws.{kept_past, some_deleted, has_nodes}
use Rattle.flux_plain.proofs.plain.PlainEditorEditor.delete.Goals as goal

pub returns-clause-ok : goal.returns-clause-ok
returns-clause-ok c =
    let kept = c.in_ok-remember.ensures.ok in
    let some = has_nodes c.nodes.result.now c.args.self.now.current.focus c.nodes.ensures.same c.nodes.ensures.flat c.if-is_empty.ensures in
    ap₂ state (kept_past c.args.self.now.earlier.items c.remember.new.earlier.items kept.0 c.args.self.now.current c.delete.new.self kept.1 (kept.2 (whole c.delete.new.self))) c.delete.ensures
    ∙ sym (some_deleted c.args.self.now.current.focus _ some)
