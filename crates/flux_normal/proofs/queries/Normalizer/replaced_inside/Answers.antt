use Rattle.std.proofs.Common.{[], ◌∷◌, map}
use Rattle.flux_calculus.specs.Core.{in_order, children, delete, insert}
use Rattle.flux_core.specs.Statements.{core_of}
use Rattle.flux_grammar.specs.NormalQueries.{of_one, query_form}
use Rattle.flux_normal.specs.Layers.{layer_of}
use Rattle.flux_normal.proofs.LayerLaws.{path_made, outside}
use Rattle.flux_normal.proofs.queries.Normalizer.replaced_inside.Goals as goal

pub returns : goal.returns
returns c =
    let at = c.args.span in
    let x = query_form c.args.expr.now in
    let inner = outside (children at) (λ q. in_order at (delete at ∷ insert at q ∷ [])) x c.layers.new.self.made c.written_over.new.self.made (core_of c.in_ok-core.core) (core_of c.in_ok-content.content) c.in_ok-core.ensures c.in_ok-content.ensures in
    path_made c.args.path.now (of_one (λ q. children at (in_order at (delete at ∷ insert at q ∷ []))) x) c.args.self.now.made c.layers.new.self.made c.written_over.new.self.made (map layer_of c.in_ok-layers.layers) (core_of c.in_ok-content.content) c.under_layers.result c.in_ok-layers.ensures inner c.under_layers.ensures
