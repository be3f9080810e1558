use Rattle.std.proofs.Common.{IsTrue, false, ◌≢◌, ap₂, subst, sym, ◌∙◌}
use Rattle.flux_trees.specs.Hedge.{nil}
use Rattle.flux_forest.specs.View.{forest_of}
use Rattle.flux_plain.specs.Moves.{state, whole}
use Rattle.flux_plain.proofs.PastLaws.{kept_past, some_inserted}
use Rattle.flux_plain.proofs.plain.PlainEditorEditor.insert.Goals as goal

pub returns-clause-ok : goal.returns-clause-ok
returns-clause-ok c =
    let kept = c.in_ok-remember.ensures.ok in
    let some : forest_of c.args.view ≢ nil = λ e. let yes : IsTrue false = subst IsTrue c.if-is_empty.false (c.is_empty.ensures.1 e) in cc yes in
    ap₂ state (kept_past c.args.self.now.earlier.items c.remember.new.earlier.items kept.0 c.args.self.now.current c.insert.new.self kept.1 (kept.2 (whole c.insert.new.self))) c.in_default.ensures.ok
    ∙ sym (some_inserted (forest_of c.args.view) _ some)
