use Rattle.flux_doctext.proofs.CanonicalLaws.{canonical_spells}
use Rattle.flux_doctext.proofs.laws.canonical_text_spells.Goals as goal

pub returns : goal.returns
returns c = canonical_spells
