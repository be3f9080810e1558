use Rattle.flux_doctext.proofs.TextLaws.{text_tells}
use Rattle.flux_doctext.proofs.laws.text_tells_forest.Goals as goal

pub returns : goal.returns
returns c = text_tells
