use Rattle.std.proofs.Common.{◌≡◌, arith, subst}
use Rattle.flux_subtype.specs.Search.{Fills}
use Rattle.flux_subtype.proofs.Turning.{no_fill, next_fill, moves_by-grows, within-grows}
use Rattle.flux_subtype.proofs.search.fill.Goals as goal

pub loop-rest-init : goal.loop-rest-init
loop-rest-init c = no_fill _ _ _ _ _ c.requires.kept

pub put-requires-clause-kept : goal.put-requires-clause-kept
put-requires-clause-kept c = c.loop-rest.invariant.kept

pub put-requires-clause-tree : goal.put-requires-clause-tree
put-requires-clause-tree c = moves_by-grows c.args.part.now c.args.kept.now.entries c.loop-rest.kept.entries c.args.head.now c.args.leaps.now c.loop-rest.invariant.grows c.requires.tree

pub put-requires-clause-rest : goal.put-requires-clause-rest
put-requires-clause-rest c = within-grows _ _ _ c.loop-rest.invariant.grows (omega arith)

pub loop-rest-preserved : goal.loop-rest-preserved
loop-rest-preserved c = next_fill _ _ _ _ _ _ _ _ c.loop-rest.invariant (omega arith) c.in_ok-put.ensures

pub returns : goal.returns
returns c =
    let e : c.loop-rest.rest ≡ c.args.rests.end = omega (arith, c.loop-rest.auto.rest-end) in
    subst (λ j. Fills c.args.part.now c.args.kept.now.entries c.loop-rest.kept.entries c.args.head.now c.args.leaps.now c.args.rests.start j) e c.loop-rest.invariant
