use Rattle.std.proofs.Common.{map, refl}
use Rattle.flux_core.specs.Statements.{core_of}
use Rattle.flux_grammar.specs.NormalQueries.{plain}
use Rattle.flux_normal.specs.Layers.{layer_of}
use Rattle.flux_normal.proofs.LayerLaws.{path_made}
use Rattle.flux_normal.proofs.queries.Normalizer.on_path.Goals as goal

pub returns : goal.returns
returns c =
    path_made c.args.path.now (plain (core_of c.args.core)) c.args.self.now.made c.layers.new.self.made c.layers.new.self.made (map layer_of c.in_ok-layers.layers) (core_of c.args.core) c.under_layers.result c.in_ok-layers.ensures refl c.under_layers.ensures
