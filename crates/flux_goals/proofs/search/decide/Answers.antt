use Rattle.std.proofs.Common.{refl}
use Rattle.flux_goals.specs.declared.table.Table.{Table}
use Rattle.flux_goals.proofs.TableLaws.{at_within, grown_at, right_interned}
use Rattle.flux_goals.proofs.SearchLaws.{decided_at}
use Rattle.flux_goals.proofs.search.decide.Goals as goal

pub returns-in_err-asked-clause-right : goal.returns-in_err-asked-clause-right
returns-in_err-asked-clause-right c =
    let new : Table = record { goals = c.intern.new.goals; shown = c.args.table.now.shown; settled = c.args.table.now.settled } in
    right_interned c.args.auto.now.states c.args.other c.args.table.now new c.args.goal c.requires.right c.requires.left c.requires.states c.in_err-asked.ensures.kept refl refl

pub settle-requires-clause-right : goal.settle-requires-clause-right
settle-requires-clause-right c =
    let new : Table = record { goals = c.intern.new.goals; shown = c.args.table.now.shown; settled = c.args.table.now.settled } in
    right_interned c.args.auto.now.states c.args.other c.args.table.now new c.args.goal c.requires.right c.requires.left c.requires.states c.in_ok-asked.ensures.kept refl refl

pub settle-requires-clause-asked : goal.settle-requires-clause-asked
settle-requires-clause-asked c = at_within c.intern.new.goals.entries c.in_ok-asked.asked c.args.goal.left c.args.goal.right.items c.in_ok-asked.ensures.there

pub found_at-requires : goal.found_at-requires
found_at-requires c =
    at_within c.settle.new.table.goals.entries c.in_ok-asked.asked c.args.goal.left c.args.goal.right.items
    (grown_at c.intern.new.goals.entries c.settle.new.table.goals.entries c.in_ok-asked.asked c.args.goal.left c.args.goal.right.items c.settle.ensures.grows c.in_ok-asked.ensures.there)

pub returns-clause-decided : goal.returns-clause-decided
returns-clause-decided c =
    decided_at c.args.auto.now.states c.args.other c.settle.new.table c.in_ok-asked.asked c.args.goal.left c.args.goal.right.items c.found_at.result c.settle.ensures.right c.in_ok-settle.ensures.done
    (grown_at c.intern.new.goals.entries c.settle.new.table.goals.entries c.in_ok-asked.asked c.args.goal.left c.args.goal.right.items c.settle.ensures.grows c.in_ok-asked.ensures.there) c.found_at.ensures
