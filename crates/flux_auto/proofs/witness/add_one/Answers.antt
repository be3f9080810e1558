use Rattle.std.proofs.Common.{refl, ◌≡◌, ◌∙◌, sym, ap, ℕ, List, Option, subst, false, rules}
use Rattle.std.specs.Option.{is_some}
use Rattle.std.proofs.lemmas.Option.{slice_get_read}
use Rattle.flux_auto.specs.Witness.{place, IsRecipe}
use Rattle.flux_auto.proofs.Recipes.{tried_found, bare_of}
use Rattle.flux_auto.proofs.witness.add_one.Goals as goal

pub returns : goal.returns
returns c =
    let row = c.index-rows-state.result in
    let at = slice_get_read c.args.rows.now _ c.args.state row refl c.requires.within c.index-rows-state.is in
    let none : is_some c.place_of.result ≡ false = search rules in
    let bare = ap (λ (l : List (Option ℕ)). place l c.args.state) (sym c.deref.ensures.value) ∙ sym c.place_of.ensures ∙ bare_of c.place_of.result none in
    let is = subst (λ (l : List (Option ℕ)). IsRecipe row c.args.other l c.in-Some.recipe) c.deref-2.ensures.value c.in-Some.ensures.found in
    tried_found c.args.rows.now c.args.other c.args.known.now _ c.args.state row c.in-Some.recipe c.requires.knows c.requires.within at bare is c.in_ok-keep.ensures.recipes c.in_ok-keep.ensures.places
