use Rattle.std.proofs.Common.{◌≡◌, ◌<◌, ◌∙◌, ap, sym, subst, length}
use Rattle.flux_trees.specs.Hedge.{Plain}
use Rattle.flux_trees.specs.Draft.{outer}
use Rattle.flux_trees.specs.Each.{EachLabel}
use Rattle.flux_forest.specs.View.{forest_of}
use Rattle.flux_top.proofs.Kept.{deletion_labels}
use Rattle.flux_top.proofs.run.result_text.Goals as goal

-- what is left has no labels but those of the whole
pub write_forest-requires : goal.write_forest-requires
write_forest-requires c =
    let P : Plain → Type 0 = λ h. EachLabel (λ a. a < length c.args.names.now) h in
    let made = c.in_ok-result.ensures in
    let whole : outer c.args.forest.now ≡ forest_of c.view.result = sym (ap outer c.view.ensures) in
    let left : forest_of c.view-2.result ≡ made.0 = ap outer (c.view-2.ensures ∙ made.1) in
    subst P (sym left) (deletion_labels (λ a. a < length c.args.names.now) c.args.path.now made.2 (subst P whole c.requires.known))
