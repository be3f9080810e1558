use Rattle.std.proofs.Common.{refl, rules}
use Rattle.flux_goals.proofs.table.found_at.Goals as goal

pub returns : goal.returns
returns c = ((c.in-Some.field-0-0.now, c.in-Some.found.now), search rules, refl)
