use Rattle.std.proofs.Common.{◌∙◌, ◌∷◌, []}
use Rattle.flux_subtype.proofs.Searching.{none_answers, lacks_part, may_build, some_answers}
use Rattle.flux_subtype.proofs.search.search.Goals as goal

pub saturate-requires-clause-lacks : goal.saturate-requires-clause-lacks
saturate-requires-clause-lacks c = lacks_part c.args.auto.now.states c.in_ok-part.part (c.args.left ∷ c.args.right ∷ []) c.args.other c.in_ok-part.ensures c.requires

pub returns-in_default : goal.returns-in_default
returns-in_default c = none_answers c.args.auto.now.states c.in_ok-part.part c.args.other c.saturate.new.found.kept.entries c.args.left c.args.right c.in_ok-place.field-0 c.in_ok-part.ensures c.in_default.is c.in_ok-place.ensures.found

pub build-requires-clause-older : goal.build-requires-clause-older
build-requires-clause-older c = (may_build c.in_ok-part.part c.saturate.new.found.kept.entries _ _ _ c.in-Some.place _ c.in-Some.is c.in_ok-place.ensures.found (c.deref.ensures.value ∙ c.in_ok-recipes.ensures)).0

pub build-requires-clause-there : goal.build-requires-clause-there
build-requires-clause-there c = (may_build c.in_ok-part.part c.saturate.new.found.kept.entries _ _ _ c.in-Some.place _ c.in-Some.is c.in_ok-place.ensures.found (c.deref.ensures.value ∙ c.in_ok-recipes.ensures)).1

pub returns : goal.returns
returns c =
    some_answers c.args.auto.now.states c.in_ok-part.part c.args.other _ _ _ _ _ _ _ c.in-Some.place _ c.in_ok-forest.forest c.in_ok-part.ensures c.in_ok-found.ensures.bare c.in_ok-place.ensures.labels c.in-Some.is c.in_ok-place.ensures.found
    (c.deref.ensures.value ∙ c.in_ok-recipes.ensures) c.in_ok-forest.ensures
