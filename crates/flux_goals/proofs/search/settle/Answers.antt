use Rattle.std.proofs.Common.{refl, subst}
use Rattle.flux_goals.specs.declared.table.Table.{Table}
use Rattle.flux_goals.specs.Table.{IsRound}
use Rattle.flux_goals.proofs.TableLaws.{grows_trans, right_searches}
use Rattle.flux_goals.proofs.SearchLaws.{right_settled}
use Rattle.flux_goals.proofs.search.settle.Goals as goal

pub returns-in_err-round-clause-right : goal.returns-in_err-round-clause-right
returns-in_err-round-clause-right c = right_searches c.args.auto.now.states c.args.other c.loop-table.table c.round.new.table c.loop-table.invariant.right c.round.ensures.searches

pub returns-in_err-round-clause-grows : goal.returns-in_err-round-clause-grows
returns-in_err-round-clause-grows c = grows_trans c.args.table.now.goals.entries c.loop-table.table.goals.entries c.round.new.table.goals.entries c.loop-table.invariant.grows c.round.ensures.searches.goals

pub loop-table-preserved-then-not-branch : goal.loop-table-preserved-then-not-branch
loop-table-preserved-then-not-branch c =
    let new : Table = record { goals = c.round.new.table.goals; shown = c.round.new.table.shown; settled = c.len-table.result } in
    record {
      right = right_settled c.args.auto.now.states c.args.other c.loop-table.table c.round.new.table new c.requires.lacks c.loop-table.invariant.right c.round.ensures.searches
          (subst (IsRound c.args.auto.now.states c.args.other c.loop-table.table c.round.new.table) c.if-not-branch.true c.in_ok-round.ensures.round) refl refl c.len-table.ensures.len;
      grows = grows_trans c.args.table.now.goals.entries c.loop-table.table.goals.entries c.round.new.table.goals.entries c.loop-table.invariant.grows c.round.ensures.searches.goals;
    }

pub loop-table-preserved : goal.loop-table-preserved
loop-table-preserved c = record {
  right = right_searches c.args.auto.now.states c.args.other c.loop-table.table c.round.new.table c.loop-table.invariant.right c.round.ensures.searches;
  grows = grows_trans c.args.table.now.goals.entries c.loop-table.table.goals.entries c.round.new.table.goals.entries c.loop-table.invariant.grows c.round.ensures.searches.goals;
}
