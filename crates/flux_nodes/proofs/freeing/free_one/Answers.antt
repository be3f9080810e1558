use Rattle.flux_nodes.proofs.FreeCalls.{last-within}
use Rattle.flux_nodes.proofs.freeing.free_one.Goals as goal

pub put_next-requires : goal.put_next-requires
put_next-requires c =
    last-within c.args.cells.now c.args.at.0 c.last_of.result c.in-Some.last c.requires.at_in c.requires.last_in c.last_of.ensures c.in-Some.is
