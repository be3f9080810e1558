use Rattle.std.proofs.Common.{ap, refl, arith, length, ◌∙◌}
use Rattle.flux_nodes.specs.Laid.{with_parent}
use Rattle.flux_nodes.proofs.LaidLaws.{edit-length}
use Rattle.flux_nodes.proofs.RunLaws.{start, turn-within, turn-done, turn-next, turn-never, turn-over}
use Rattle.flux_nodes.proofs.parents.put_parents.Goals as goal

pub trees-init : goal.trees-init
trees-init c =
    (refl, λ r. start c.args.cells.now r.trees r.parent r.prev r.next c.args.parent c.args.run.first.0 r.first_is r.laid)

pub put_parent-requires : goal.put_parent-requires
put_parent-requires c =
    turn-within c.args.cells.now c.trees.cells c.args.run c.args.parent c.trees.at.0 c.trees._step c.trees.invariant.1 c.requires

pub next_of-requires : goal.next_of-requires
next_of-requires c =
    omega (arith, ap length c.put_parent.ensures, edit-length (with_parent c.args.parent) c.trees.at.0 c.trees.cells, turn-within c.args.cells.now c.trees.cells c.args.run c.args.parent c.trees.at.0 c.trees._step c.trees.invariant.1 c.requires)

pub returns-then-at-run : goal.returns-then-at-run
returns-then-at-run c =
    turn-done c.args.cells.now c.trees.cells c.put_parent.new.cells c.args.run c.args.parent c.trees.at.0 c.trees._step c.put_parent.ensures c.trees.invariant.1 c.if-at-run.true

pub returns-in-None : goal.returns-in-None
returns-in-None c =
    absurd (turn-never c.args.cells.now c.trees.cells c.put_parent.new.cells c.args.run c.args.parent c.trees.at.0 c.trees._step c.next_of.result c.put_parent.ensures c.trees.invariant.1 c.if-at-run.false c.next_of.ensures c.in-None.is c.requires)

pub trees-preserved : goal.trees-preserved
trees-preserved c =
    (ap length c.put_parent.ensures ∙ edit-length (with_parent c.args.parent) c.trees.at.0 c.trees.cells ∙ c.trees.invariant.0, turn-next c.args.cells.now c.trees.cells c.put_parent.new.cells c.args.run c.args.parent c.trees.at.0 c.trees._step c.next_of.result c.in-Some.next c.put_parent.ensures c.trees.invariant.1 c.if-at-run.false c.next_of.ensures c.in-Some.is)

pub returns : goal.returns
returns c =
    absurd (turn-over c.args.cells.now c.trees.cells c.args.run c.args.parent c.trees.at.0 c.trees._step c.trees.invariant.1 c.trees-test.false c.requires)
