use Rattle.std.proofs.Common.{map}
use Rattle.flux_calculus.specs.Core.{right, children, insert}
use Rattle.flux_core.specs.Statements.{core_of}
use Rattle.flux_grammar.specs.NormalQueries.{of_one, query_form}
use Rattle.flux_normal.specs.Layers.{layer_of}
use Rattle.flux_normal.proofs.LayerLaws.{path_made, outside}
use Rattle.flux_normal.proofs.queries.Normalizer.inserted_last.Goals as goal

pub returns : goal.returns
returns c =
    let at = c.args.span in
    let x = query_form c.args.expr.now in
    let beside = outside (right at) (insert at) x c.layers.new.self.made c.inserted.new.self.made (core_of c.in_ok-insert.insert) (core_of c.in_ok-after.after) c.in_ok-insert.ensures c.in_ok-after.ensures in
    let inner = outside (children at) (λ q. right at (insert at q)) x c.layers.new.self.made c.inserted.new.self.made (core_of c.in_ok-after.after) (core_of c.in_ok-last.last) beside c.in_ok-last.ensures in
    path_made c.args.path.now (of_one (λ q. children at (right at (insert at q))) x) c.args.self.now.made c.layers.new.self.made c.inserted.new.self.made (map layer_of c.in_ok-layers.layers) (core_of c.in_ok-last.last) c.under_layers.result c.in_ok-layers.ensures inner c.under_layers.ensures
