use Rattle.std.proofs.Common.{List, [], ◌∷◌, map, subst}
use Rattle.std.specs.List.{flat_map}
use Rattle.std.proofs.lemmas.Grind.{flat_map-append}
use Rattle.std.proofs.lemmas.List.{map-append}
use Rattle.flux_grammar.specs.NormalFaults.{written_in}
use Rattle.flux_grammar.specs.declared.tree.TypeText.{TypeText}
use Rattle.flux_grammar.specs.declared.tree.ProcDef.{ProcDef}
use Rattle.flux_normal.specs.Types.{AnswersAll}
use Rattle.flux_normal.proofs.Walks.{walk_found, walk_more, in_one}
use Rattle.flux_normal.proofs.walk.in_procs.Goals as goal

abbrev written : List ProcDef → List TypeText
written = flat_map written_in

pub returns-in-Some : goal.returns-in-Some
returns-in-Some c =
    walk_found c.args.question.now written (flat_map-append written_in) c.args.procs.now c.loop-one.one-index c.one-item.result c.in-Some.place c.loop-one-test.true c.one-item.is c.loop-one.invariant (in_one c.args.question.now (written_in c.one-item.result) _ (subst (λ r. AnswersAll c.args.question.now (written_in c.one-item.result) r) c.in-Some.is c.in_proc.ensures))

pub loop-one-preserved : goal.loop-one-preserved
loop-one-preserved c =
    walk_more c.args.question.now written (flat_map-append written_in) c.args.procs.now c.loop-one.one-index c.one-item.result c.loop-one-test.true c.one-item.is c.loop-one.invariant (in_one c.args.question.now (written_in c.one-item.result) _ (subst (λ r. AnswersAll c.args.question.now (written_in c.one-item.result) r) c.in_default.is c.in_proc.ensures))
