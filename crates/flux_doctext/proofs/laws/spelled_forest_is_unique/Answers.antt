use Rattle.flux_doctext.proofs.CanonicalLaws.{unique_forest}
use Rattle.flux_doctext.proofs.laws.spelled_forest_is_unique.Goals as goal

pub returns : goal.returns
returns c = unique_forest
