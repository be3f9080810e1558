use Rattle.std.proofs.Common.{◌+◌, ◌∙◌, sym, subst, arith}
use Rattle.flux_goals.specs.Table.{IsDriven, StandFrom}
use Rattle.flux_goals.proofs.GoalLaws.{both_values}
use Rattle.flux_goals.proofs.TableLaws.{searches_trans}
use Rattle.flux_goals.proofs.SearchLaws.{more_later, more_then, stand_next, round_is}
use Rattle.flux_goals.proofs.search.round.Goals as goal
use Rattle.flux_goals.proofs.search.round.Goals.{then-branch, else-branch}

pub returns-in_err-drive-clause-searches : goal.returns-in_err-drive-clause-searches
returns-in_err-drive-clause-searches c = searches_trans c.args.auto.now.states c.args.other c.args.table.now c.loop-place.table c.drive.new.table c.loop-place.invariant.searches c.drive.ensures.searches

pub loop-place-preserved : goal.loop-place-preserved
loop-place-preserved c =
    let before = c.loop-place.invariant in
    let searches = searches_trans c.args.auto.now.states c.args.other c.args.table.now c.loop-place.table c.drive.new.table before.searches c.drive.ensures.searches in
    let driven = IsDriven c.args.auto.now.states c.args.other c.loop-place.table c.drive.new.table c.loop-place.place in
    elim c.if-branch.branch [
      | then-branch w ↦ record {
        searches = searches;
        more = λ _. more_then c.args.auto.now.states c.args.other c.args.table.now c.loop-place.table c.drive.new.table before.searches (subst driven w.if-branch.true c.in_ok-drive.ensures.driven);
        stand = λ e. absurd (both_values c.if-branch.more w.more-is e);
      }
      | else-branch w ↦ record {
        searches = searches;
        more = λ e. more_later c.args.auto.now.states c.args.other c.args.table.now c.loop-place.table c.drive.new.table (before.more (sym w.more-is ∙ e)) c.drive.ensures.searches;
        stand = λ e. subst (λ n. StandFrom c.args.auto.now.states c.args.other c.drive.new.table.goals.entries n (c.loop-place.place + 1)) (sym c.drive.ensures.searches.settled)
            (stand_next c.args.auto.now.states c.args.other c.loop-place.table c.drive.new.table c.loop-place.table.settled c.loop-place.place (omega (arith, c.loop-place-test.true, c.len.ensures.len)) (before.stand (sym w.more-is ∙ e)) (subst driven w.if-branch.false c.in_ok-drive.ensures.driven));
      }
    ]

pub returns-clause-round : goal.returns-clause-round
returns-clause-round c = round_is c.args.auto.now.states c.args.other c.args.table.now c.loop-place.table c.loop-place.place c.loop-place.more (omega (arith, c.loop-place-test.false, c.len.ensures.len)) c.loop-place.invariant.more c.loop-place.invariant.stand
