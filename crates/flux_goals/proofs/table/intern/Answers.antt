use Rattle.std.proofs.Common.{◌∙◌, inr, sym}
use Rattle.flux_goals.specs.contracts.goal.GoalPartialEq.TheImpl.{eq-value}
use Rattle.flux_goals.proofs.Interning.{at_position, not_some, added_at}
use Rattle.flux_auto.proofs.Items.{new_entry}
use Rattle.flux_goals.proofs.table.intern.Goals as goal

pub returns-in-Some-clause-there : goal.returns-in-Some-clause-there
returns-in-Some-clause-there c = at_position c.args.goals.now.entries c.args.goal c.in-Some.place (sym c.get_index_of.ensures.index ∙ c.in-Some.is)

pub returns-clause-kept : goal.returns-clause-kept
returns-clause-kept c = inr (new_entry eq-value.it c.args.goals.now c.args.goal _ _ (sym c.get_index_of.ensures.found ∙ not_some c.get_index_of.result c.in_default.not-Some) c.in_ok-insert.ensures.entries)

pub returns-clause-there : goal.returns-clause-there
returns-clause-there c =
    let new = new_entry eq-value.it c.args.goals.now c.args.goal _ _ (sym c.get_index_of.ensures.found ∙ not_some c.get_index_of.result c.in_default.not-Some) c.in_ok-insert.ensures.entries in
    added_at c.args.goals.now.entries _ c.args.goal c.len-place.result new c.len-place.ensures.len
