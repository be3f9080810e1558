use Rattle.flux_nodes.proofs.TableCalls.{table_of}
use Rattle.flux_nodes.proofs.SoundLaws.{sound}
use Rattle.flux_nodes.proofs.table.Table.table_is_sound.Goals as goal

pub returns : goal.returns
returns c =
    sound c.self.inside.cells.items c.self.inside.top c.self.inside.end c.self.inside.free c.args.self.now (table_of c.self.invariant c.self.view_is)
