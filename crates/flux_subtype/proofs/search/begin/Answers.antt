use Rattle.std.proofs.Common.{◌∙◌, List, subst}
use Rattle.flux_atom.specs.declared.atom.AtomKind.TheVariants as kind
use Rattle.flux_auto.specs.declared.recipe.Recipe.TheVariants.{End}
use Rattle.flux_subtype.specs.declared.trees.Head.TheVariants.{Atom}
use Rattle.flux_subtype.specs.Kept.{Kept, Keeps}
use Rattle.flux_subtype.specs.Search.{Tree, AddsTree}
use Rattle.flux_subtype.proofs.Searching.{begun, none_used}
use Rattle.flux_subtype.proofs.search.begin.Goals as goal

pub returns-clause-done : goal.returns-clause-done
returns-clause-done c = begun c.args.part.now c.args.arcs.now _ _ _ _ _ _ _ c.in_ok-nothing.field-0 c.requires c.in_ok-nothing.ensures (record {
  for_bool = c.in_ok-to_vec.ensures.items_if_clones_equal (λ x y h. h) ∙ c.for_kind.ensures;
  for_text = c.in_ok-to_vec-2.ensures.items_if_clones_equal (λ x y h. h) ∙ c.for_kind-2.ensures;
  for_int = c.in_ok-to_vec-3.ensures.items_if_clones_equal (λ x y h. h) ∙ c.for_kind-3.ensures;
  one = subst (λ (ts : List Tree). AddsTree ts c.add_tree.new.trees.entries (Atom kind.Bool) c.in_ok-to_vec.field-0.items) c.new-trees.ensures.empty c.in_ok-add_tree.ensures;
  two = c.in_ok-add_tree-2.ensures;
  three = c.in_ok-add_tree-3.ensures;
  kept = subst (λ (ks : List Kept). Keeps ks c.in_ok-nothing.field-0 End c.keep.new.kept.entries) c.new-kept.ensures.empty c.in_ok-keep.ensures;
})

pub returns-clause-bare : goal.returns-clause-bare
returns-clause-bare c = none_used _ _ _ _ _ _ _ c.in_ok-nothing.field-0
    (subst (λ (ts : List Tree). AddsTree ts c.add_tree.new.trees.entries (Atom kind.Bool) c.in_ok-to_vec.field-0.items) c.new-trees.ensures.empty c.in_ok-add_tree.ensures) c.in_ok-add_tree-2.ensures c.in_ok-add_tree-3.ensures
    (subst (λ (ks : List Kept). Keeps ks c.in_ok-nothing.field-0 End c.keep.new.kept.entries) c.new-kept.ensures.empty c.in_ok-keep.ensures)
