use Rattle.std.proofs.Common.{List, [], ◌∷◌, map, subst}
use Rattle.std.specs.List.{flat_map}
use Rattle.std.proofs.lemmas.Grind.{flat_map-append}
use Rattle.std.proofs.lemmas.List.{map-append}
use Rattle.flux_grammar.specs.NormalFaults.{written_in}
use Rattle.flux_grammar.specs.declared.tree.TypeText.{TypeText}
use Rattle.flux_grammar.specs.declared.tree.ParamDef.{ParamDef}
use Rattle.flux_normal.specs.Types.{AnswersAll}
use Rattle.flux_normal.proofs.Walks.{walk_found, walk_more, in_one}
use Rattle.flux_normal.proofs.walk.in_params.Goals as goal

abbrev written : List ParamDef → List TypeText
written = map (λ p. p.ty)

pub returns-in-Some : goal.returns-in-Some
returns-in-Some c =
    walk_found c.args.question.now written (map-append (λ (p : ParamDef). p.ty)) c.args.params.now c.loop-param.param-index c.param-item.result c.in-Some.place c.loop-param-test.true c.param-item.is c.loop-param.invariant (subst (λ r. AnswersAll c.args.question.now (c.param-item.result.ty ∷ []) r) c.in-Some.is c.in_type.ensures.alone)

pub loop-param-preserved : goal.loop-param-preserved
loop-param-preserved c =
    walk_more c.args.question.now written (map-append (λ (p : ParamDef). p.ty)) c.args.params.now c.loop-param.param-index c.param-item.result c.loop-param-test.true c.param-item.is c.loop-param.invariant (subst (λ r. AnswersAll c.args.question.now (c.param-item.result.ty ∷ []) r) c.in_default.is c.in_type.ensures.alone)
