use Rattle.std.proofs.Common.{◌∙◌, sym, ap, Some}
use Rattle.flux_forest.specs.View.{forest_of}
use Rattle.flux_query.proofs.TreeLaws.{opened-content}
use Rattle.flux_query.proofs.trees.content.Goals as goal

pub returns : goal.returns
returns c = opened-content (forest_of c.args.view) c.requires ∙ ap Some (sym c.opened.ensures)
