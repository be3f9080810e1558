use Rattle.flux_normal.proofs.NormalLaws.{cyclic}
use Rattle.flux_normal.proofs.Defined.{script_fine}
use Rattle.flux_normal.proofs.script.normal.Goals as goal

pub read_headers-requires : goal.read_headers-requires
read_headers-requires c = script_fine c.args.script.now _ c.in-Ok.ensures.types c.in_default.ensures.ok.before.known c.in_default.ensures.ok.within
