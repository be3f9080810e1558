use Rattle.std.proofs.Common.{true, length, sym, subst}
use Rattle.flux_trees.specs.Hedge.{nil}
use Rattle.flux_goals.specs.Goals.{AllBelow, NoneTakes}
use Rattle.flux_goals.proofs.AfterLaws.{end_is}
use Rattle.flux_goals.proofs.SearchLaws.{ends_shows}
use Rattle.flux_goals.proofs.search.ends_against.Goals as goal

pub some_ends-requires : goal.some_ends-requires
some_ends-requires c = subst (AllBelow (length c.args.auto.now.states)) (sym c.deref.ensures.value) c.requires.right

pub returns-clause-yes : goal.returns-clause-yes
returns-clause-yes c =
    ends_shows c.args.auto.now.states c.args.goal.now.left c.args.goal.now.right.items c.some_ends.result (end_is c.args.auto.now.states c.args.goal.now.left c.ends.result true c.ends.ensures c.if-not-ends.false)
    (λ e. subst (λ l. NoneTakes c.args.auto.now.states l nil) c.deref.ensures.value (c.some_ends.ensures.no e))
