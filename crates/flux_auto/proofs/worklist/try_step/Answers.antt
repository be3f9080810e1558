use Rattle.std.proofs.Common.{◌≡◌, ◌∙◌, sym, ap, inr, ℕ, List, Option, false, rules}
use Rattle.std.proofs.lemmas.Option.{slice_get_within}
use Rattle.std.specs.Option.{is_some}
use Rattle.flux_auto.specs.Witness.{place, recipe_by}
use Rattle.flux_auto.proofs.Recipes.{tried_found, bare_of}
use Rattle.flux_auto.proofs.worklist.try_step.Goals as goal

pub returns : goal.returns
returns c =
    let rows = c.args.rows.now in
    let s = c.args.step.now.state in
    let of = c.in-Some.ensures in
    let none : is_some c.place_of.result ≡ false = search rules in
    let bare = ap (λ (l : List (Option ℕ)). place l s) (sym c.deref.ensures.value) ∙ sym c.place_of.ensures ∙ bare_of c.place_of.result none in
    let gives = ap (λ (l : List (Option ℕ)). recipe_by c.args.other l c.in-Some.edge.now) (sym c.deref-2.ensures.value) ∙ sym c.in-Some-edge_recipe.ensures in
    (tried_found rows c.args.other c.args.known.now _ s of.0 c.in-Some-edge_recipe.recipe c.requires (slice_get_within rows s of.0 of.2) of.2 bare (inr (of.1, c.in-Some.edge.now, of.3, gives)) c.in_ok-keep.ensures.recipes c.in_ok-keep.ensures.places).knows
