use Rattle.std.proofs.Common.{sym, ◌∙◌, string_bytes}
use Rattle.flux_atom.proofs.Tables.{list_any_seen}
use Rattle.flux_atom.proofs.names.Names.holds.Goals as goal

pub returns : goal.returns
returns c = c.contains.ensures ∙ sym (list_any_seen string_bytes c.args.text.now c.self.inside.texts.keys c.args.self.now c.self.view_is)
