use Rattle.flux_syntax.proofs.OneToken.{alone, literal_found}
use Rattle.flux_syntax.proofs.pieces.literal.Goals as goal

pub unreachable-requires : goal.unreachable-requires
unreachable-requires c =
    let (atom, is) = c.requires.literal in
    c.in-Not.ensures.0 atom _ (alone c.args.text.now atom is)

pub returns-in-Found : goal.returns-in-Found
returns-in-Found c = λ atom is.
    literal_found c.args.text.now c.in-Found.atom atom c.in-Found.field-1 c.in-Found.ensures is
