use Rattle.flux_top.proofs.Unique.{answer_one}
use Rattle.flux_top.proofs.laws.answer_is_unique.Goals as goal

pub returns : goal.returns
returns c = answer_one
