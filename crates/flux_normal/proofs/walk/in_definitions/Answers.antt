use Rattle.std.proofs.Common.{List, [], ◌∷◌, map, subst}
use Rattle.std.specs.List.{flat_map}
use Rattle.std.proofs.lemmas.Grind.{flat_map-append}
use Rattle.std.proofs.lemmas.List.{map-append}
use Rattle.flux_grammar.specs.NormalFaults.{written_in}
use Rattle.flux_grammar.specs.declared.tree.TypeText.{TypeText}
use Rattle.flux_grammar.specs.declared.tree.TypeDef.{TypeDef}
use Rattle.flux_normal.specs.Types.{AnswersAll}
use Rattle.flux_normal.proofs.Walks.{walk_found, walk_more, in_one}
use Rattle.flux_normal.proofs.walk.in_definitions.Goals as goal

abbrev written : List TypeDef → List TypeText
written = map (λ d. d.body)

pub returns-in-Some : goal.returns-in-Some
returns-in-Some c =
    walk_found c.args.question.now written (map-append (λ (d : TypeDef). d.body)) c.args.types.now c.loop-definition.definition-index c.definition-item.result c.in-Some.place c.loop-definition-test.true c.definition-item.is c.loop-definition.invariant (subst (λ r. AnswersAll c.args.question.now (c.definition-item.result.body ∷ []) r) c.in-Some.is c.in_type.ensures.alone)

pub loop-definition-preserved : goal.loop-definition-preserved
loop-definition-preserved c =
    walk_more c.args.question.now written (map-append (λ (d : TypeDef). d.body)) c.args.types.now c.loop-definition.definition-index c.definition-item.result c.loop-definition-test.true c.definition-item.is c.loop-definition.invariant (subst (λ r. AnswersAll c.args.question.now (c.definition-item.result.body ∷ []) r) c.in_default.is c.in_type.ensures.alone)
