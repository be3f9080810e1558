use Rattle.flux_goals.specs.declared.goal.Goal.{Goal}
use Rattle.flux_goals.proofs.TableLaws.{table_interned, asked_at, at_within}
use Rattle.flux_goals.proofs.table.ask.Goals as goal

pub returns-in_err-place-clause-table : goal.returns-in_err-place-clause-table
returns-in_err-place-clause-table c =
    let g : Goal = record { left = c.args.left; right = c.args.right } in
    table_interned c.args.auto.now.states c.args.other c.args.table.now.goals.entries c.intern.new.goals.entries c.args.table.now.shown.items g c.requires.table c.requires.left c.requires.right c.in_err-place.ensures.kept

pub found_at-requires : goal.found_at-requires
found_at-requires c = at_within c.intern.new.goals.entries c.in_ok-place.place c.args.left c.args.right.items c.in_ok-place.ensures.there

pub returns-clause-table : goal.returns-clause-table
returns-clause-table c =
    let g : Goal = record { left = c.args.left; right = c.args.right } in
    table_interned c.args.auto.now.states c.args.other c.args.table.now.goals.entries c.intern.new.goals.entries c.args.table.now.shown.items g c.requires.table c.requires.left c.requires.right c.in_ok-place.ensures.kept

pub returns-clause-asked : goal.returns-clause-asked
returns-clause-asked c =
    let g : Goal = record { left = c.args.left; right = c.args.right } in
    asked_at c.args.auto.now.states c.args.other c.intern.new.goals.entries c.args.table.now.shown.items c.in_ok-place.place c.args.left c.args.right.items c.found_at.result
    (table_interned c.args.auto.now.states c.args.other c.args.table.now.goals.entries c.intern.new.goals.entries c.args.table.now.shown.items g c.requires.table c.requires.left c.requires.right c.in_ok-place.ensures.kept)
    c.in_ok-place.ensures.there c.found_at.ensures
