use Rattle.std.proofs.Common.{◌≡◌, ◌∙◌, sym, ap, subst, map, take, Some, List, ℕ, ◌+◌}
use Rattle.flux_top.specs.Script.{lone_label}
use Rattle.flux_top.proofs.Lone.{lone_next, lone_none}
use Rattle.flux_top.proofs.script.lone_labels.Goals as goal

pub returns-in_default-clause-more : goal.returns-in_default-clause-more
returns-in_default-clause-more c =
    lone_none c.args.steps.now c.loop-step.step-index c.step-item.result c.loop-step-test.true (ap lone_label (sym c.step-item.is) ∙ sym c.lone_label.ensures ∙ c.in_default.is)

pub loop-step-preserved : goal.loop-step-preserved
loop-step-preserved c =
    let label = ap lone_label (sym c.step-item.is) ∙ sym c.lone_label.ensures ∙ c.in-Some.is in
    let next = lone_next c.args.steps.now c.loop-step.path.items c.loop-step.step-index c.in-Some.label c.step-item.result c.loop-step-test.true c.loop-step.invariant label in
    subst (λ (l : List ℕ). map lone_label (take (c.loop-step.step-index + 1) c.args.steps.now) ≡ map Some l) (sym c.in_ok-push.ensures.items) next
