use Rattle.std.proofs.Common.{length, ap, subst, arith}
use Rattle.flux_goals.specs.Table.{IsLooked}
use Rattle.flux_goals.proofs.TableLaws.{searches_asks, searches_trans}
use Rattle.flux_goals.proofs.SearchLaws.{goal_inside, visited_stands, found_here, searches_mark}
use Rattle.flux_goals.proofs.search.make.Goals as goal

pub look-requires-clause-right : goal.look-requires-clause-right
look-requires-clause-right c = (goal_inside c.args.auto.now.states c.args.other c.args.table.now.goals.entries c.args.table.now.shown.items c.args.visit.place c.in_ok-goal.goal.left c.in_ok-goal.goal.right.items c.requires.table c.in_ok-goal.ensures).1

pub returns-in_err-look-clause-searches : goal.returns-in_err-look-clause-searches
returns-in_err-look-clause-searches c = searches_asks c.args.auto.now.states c.args.other c.args.table.now c.look.new.table c.in_err-look.ensures.table c.in_err-look.ensures.asks

pub returns-in-Over-clause-searches : goal.returns-in-Over-clause-searches
returns-in-Over-clause-searches c = searches_asks c.args.auto.now.states c.args.other c.args.table.now c.look.new.table c.in_ok-look.ensures.table c.in_ok-look.ensures.asks

pub returns-in-Over-clause-visited : goal.returns-in-Over-clause-visited
returns-in-Over-clause-visited c =
    visited_stands c.args.auto.now.states c.args.other (length c.args.table.now.goals.entries) c.args.table.now c.look.new.table c.args.visit.place c.args.visit.edge c.in_ok-goal.goal c.in_ok-look.ensures.asks.goals c.in_ok-goal.ensures
    (subst (IsLooked (length c.args.table.now.goals.entries) c.args.auto.now.states c.args.other c.look.new.table.goals.entries c.look.new.table.shown.items c.in_ok-goal.goal c.args.visit.edge) c.in-Over.is c.in_ok-look.ensures.looked)

pub returns-in-Stopped-clause-searches : goal.returns-in-Stopped-clause-searches
returns-in-Stopped-clause-searches c = searches_asks c.args.auto.now.states c.args.other c.args.table.now c.look.new.table c.in_ok-look.ensures.table c.in_ok-look.ensures.asks

pub mark-requires-clause-found : goal.mark-requires-clause-found
mark-requires-clause-found c =
    found_here c.args.auto.now.states c.args.other c.args.table.now.goals.entries c.look.new.table.goals.entries c.look.new.table.shown.items c.args.visit.place c.in_ok-goal.goal c.in-Against.recipe c.in_ok-look.ensures.asks.goals c.in_ok-goal.ensures
    (subst (IsLooked (length c.args.table.now.goals.entries) c.args.auto.now.states c.args.other c.look.new.table.goals.entries c.look.new.table.shown.items c.in_ok-goal.goal c.args.visit.edge) c.in-Against.is c.in_ok-look.ensures.looked)

pub returns-in_err-mark-in-Against-clause-searches :
    goal.returns-in_err-mark-in-Against-clause-searches
returns-in_err-mark-in-Against-clause-searches c =
    searches_trans c.args.auto.now.states c.args.other c.args.table.now c.look.new.table c.mark.new.table
    (searches_asks c.args.auto.now.states c.args.other c.args.table.now c.look.new.table c.in_ok-look.ensures.table c.in_ok-look.ensures.asks)
    (searches_mark c.args.auto.now.states c.args.other c.args.table.now c.look.new.table c.mark.new.table c.in_ok-look.ensures.asks c.mark.ensures.table c.mark.ensures.grows (omega (arith, ap length c.in_err-mark-in-Against.ensures.err)) c.mark.ensures.settled)

pub returns-clause-searches : goal.returns-clause-searches
returns-clause-searches c =
    searches_trans c.args.auto.now.states c.args.other c.args.table.now c.look.new.table c.mark.new.table
    (searches_asks c.args.auto.now.states c.args.other c.args.table.now c.look.new.table c.in_ok-look.ensures.table c.in_ok-look.ensures.asks)
    (searches_mark c.args.auto.now.states c.args.other c.args.table.now c.look.new.table c.mark.new.table c.in_ok-look.ensures.asks c.mark.ensures.table c.mark.ensures.grows (omega (arith, c.in_ok-mark-in-Against.ensures.more)) c.mark.ensures.settled)
