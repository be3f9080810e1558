use Rattle.flux_atom.proofs.StandingLiterals.{canonical_literal}
use Rattle.flux_atom.proofs.literal.write_literal.Goals as goal

pub returns-then-is_err-clause-spells : goal.returns-then-is_err-clause-spells
returns-then-is_err-clause-spells c = canonical_literal c.args.atom.now c.atom_is_proper.ensures

pub returns-else-is_err-clause-spells : goal.returns-else-is_err-clause-spells
returns-else-is_err-clause-spells c = canonical_literal c.args.atom.now c.atom_is_proper.ensures
