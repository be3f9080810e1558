use Rattle.std.proofs.Common.{◌≡◌, ◌<◌, length, sym, subst, ◌∙◌}
use Rattle.flux_trees.specs.Draft.{done}
use Rattle.flux_trees.specs.Each.{EachLabel}
use Rattle.flux_forest.specs.View.{forest_of}
use Rattle.flux_doctext.proofs.TextLaws.{labels_within}
use Rattle.flux_doctext.proofs.read.tests.canonical.Goals as goal

pub write_forest-requires : goal.write_forest-requires
write_forest-requires g c =
    let read = c.in_ok-forest.ensures.ok in
    let whole : done (forest_of c.view.result) ≡ done read.0 = c.view.ensures ∙ read.1 in
    let same : forest_of c.view.result ≡ read.0 = cc in
    subst (EachLabel (λ a. a < length c.read_document.new.names)) (sym same) (labels_within c.read_document.new.names read.0 read.2.over.labels)
