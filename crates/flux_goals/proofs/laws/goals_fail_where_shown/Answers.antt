use Rattle.flux_goals.proofs.FailsLaws.{fails_iff}
use Rattle.flux_goals.proofs.laws.goals_fail_where_shown.Goals as goal

pub returns : goal.returns
returns c = fails_iff
