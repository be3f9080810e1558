use Rattle.std.proofs.Common.{◌∙◌, sym, refl, rules}
use Rattle.flux_goals.proofs.table.goal_at.Goals as goal

pub returns : goal.returns
returns c = ((c.in-Some.goal.now, c.in-Some.field-0-1.now), search rules, refl, sym (c.in_ok-right-in-Some.ensures ∙ c.deref.ensures.value))
