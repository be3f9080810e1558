use Rattle.flux_doctext.proofs.Taken.{name_ends}
use Rattle.flux_doctext.proofs.reader.end_name.Goals as goal

pub returns : goal.returns
returns c =
    name_ends c.args.text.now _ c.args.forest.now c.push_atom.new.self c.is_whole.result c.in-Some.ensures.truth c.in_ok-push_atom.ensures.ok c.is_whole.ensures
