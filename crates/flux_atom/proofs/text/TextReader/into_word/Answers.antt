use Rattle.std.proofs.Common.{ap, ◌∙◌}
use Rattle.flux_atom.proofs.StringLaws.{reached_utf8}
use Rattle.flux_atom.proofs.text.TextReader.into_word.Goals as goal

pub from_utf8_unchecked-requires : goal.from_utf8_unchecked-requires
from_utf8_unchecked-requires c =
    reached_utf8 (c.self.inside.state, c.self.inside.text.items) c.self.invariant (ap (λ r. r.0) c.self.view_is ∙ c.requires)
