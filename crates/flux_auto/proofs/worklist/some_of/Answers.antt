use Rattle.std.proofs.Common.{◌∙◌, ◌<◌, sym, ap, subst, List, Option, ℕ, length}
use Rattle.flux_trees.specs.Draft.{done}
use Rattle.flux_auto.specs.declared.recipe.Recipe.{Recipe}
use Rattle.flux_auto.specs.Witness.{place, forest_at, forests}
use Rattle.flux_auto.proofs.Recipes.{untaken, taken_at}
use Rattle.flux_auto.proofs.worklist.some_of.Goals as goal

pub returns-in_default : goal.returns-in_default
returns-in_default c = λ v. untaken c.args.rows.now c.args.other c.in_ok-known.known.places.items c.in_ok-known.ensures.settled v c.args.state (ap (λ (l : List (Option ℕ)). place l c.args.state) (sym c.deref.ensures.value) ∙ sym c.in_default.ensures)

pub build-requires-clause-there : goal.build-requires-clause-there
build-requires-clause-there c =
    let at = ap (λ (l : List (Option ℕ)). place l c.args.state) (sym c.deref.ensures.value) ∙ sym c.in-Some.ensures in
    subst (λ (l : List Recipe). c.in-Some.place < length l) (sym c.deref-2.ensures.value) (c.in_ok-known.ensures.knows.sound c.args.state c.in-Some.place at).0

pub returns : goal.returns
returns c =
    let known = c.in_ok-known.known in
    let at = ap (λ (l : List (Option ℕ)). place l c.args.state) (sym c.deref.ensures.value) ∙ sym c.in-Some.ensures in
    taken_at c.args.rows.now c.args.other known c.args.state c.in-Some.place c.in_ok-forest.forest c.in_ok-known.ensures.knows at (c.in_ok-forest.ensures ∙ ap (λ (l : List Recipe). done (forest_at (forests l) c.in-Some.place)) c.deref-2.ensures.value)
