use Rattle.std.proofs.Common.{◌∙◌}
use Rattle.flux_forest.specs.View.{forest_of}
use Rattle.flux_forest.proofs.ViewLaws.{IsElement-not_nil, opened-element}
use Rattle.flux_forest.proofs.view.View.content.Goals as goal

pub opened-requires : goal.opened-requires
opened-requires c = IsElement-not_nil (forest_of c.args.self) c.requires

pub returns : goal.returns
returns c = c.opened.ensures ∙ opened-element (forest_of c.args.self) c.requires
