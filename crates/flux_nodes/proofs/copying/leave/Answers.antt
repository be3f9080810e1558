use Rattle.std.proofs.Common.{refl}
use Rattle.flux_nodes.proofs.CopyLaws.{leave-none, leave-deep, leave-at, inside-within}
use Rattle.flux_nodes.proofs.copying.leave.Goals as goal

pub end_element-requires : goal.end_element-requires
end_element-requires c = leave-deep c.args.cells.now c.args.walk c.args.forest.now c.requires.walk c.requires.none

pub next_in_run-requires : goal.next_in_run-requires
next_in_run-requires c =
    inside-within c.args.cells.now c.args.walk c.in-Some.node c.args.forest.now c.requires.walk c.requires.none c.in-Some.is

pub parent_of-requires : goal.parent_of-requires
parent_of-requires c =
    inside-within c.args.cells.now c.args.walk c.in-Some.node c.args.forest.now c.requires.walk c.requires.none c.in-Some.is

pub unreachable-requires : goal.unreachable-requires
unreachable-requires c =
    leave-none c.args.cells.now c.args.walk c.args.forest.now c.requires.walk.run c.requires.walk.walk_is c.requires.none c.requires.walk.goes_on c.in-None.is

pub returns : goal.returns
returns c = record {
  same_run = refl;
  walk_is = λ r s. (leave-at c.args.cells.now c.args.walk c.in-Some.node c.args.forest.now c.end_element.new.self c.next_in_run.result c.parent_of.result r s c.requires.none c.requires.walk.goes_on c.in-Some.is c.end_element.ensures c.next_in_run.ensures.stops c.next_in_run.ensures.goes c.parent_of.ensures).1;
  fewer = (leave-at c.args.cells.now c.args.walk c.in-Some.node c.args.forest.now c.end_element.new.self c.next_in_run.result c.parent_of.result c.requires.walk.run c.requires.walk.walk_is c.requires.none c.requires.walk.goes_on c.in-Some.is c.end_element.ensures c.next_in_run.ensures.stops c.next_in_run.ensures.goes c.parent_of.ensures).2;
}
