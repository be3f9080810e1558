use Rattle.std.proofs.Common.{sym, ap, subst}
use Rattle.flux_atom.specs.Names.{IsName}
use Rattle.flux_doctext.specs.Reading.{name}
use Rattle.flux_doctext.proofs.Taken.{name_taken, named_byte}
use Rattle.flux_doctext.proofs.reader.in_name.Goals as goal
use Rattle.flux_atom.proofs.Plain.{name_push}

pub returns-in_ok-text-in-Letter-clause-next : goal.returns-in_ok-text-in-Letter-clause-next
returns-in_ok-text-in-Letter-clause-next c =
    let longer = c.in_ok-text-in-Letter.ensures in
    name_taken c.args.names.now _ c.args.byte _ c.args.sign c.args.forest.now _ c.in-Letter.is (ap name longer) (subst IsName (sym longer) (name_push _ c.args.byte c.requires.name (named_byte c.args.byte c.args.sign c.requires.sign c.in-Letter.is)))
