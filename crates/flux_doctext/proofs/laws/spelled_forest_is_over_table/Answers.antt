use Rattle.flux_doctext.proofs.LabelLaws.{spelled_over}
use Rattle.flux_doctext.proofs.laws.spelled_forest_is_over_table.Goals as goal

pub returns : goal.returns
returns c = spelled_over
