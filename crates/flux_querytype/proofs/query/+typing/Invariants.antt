use Rattle.std.proofs.Common.{◌≡◌, ◌+◌, ◌*◌}
use Rattle.flux_querytype.proofs.Typed.{Behind}
use Rattle.flux_query.specs.Read.{query_of}
use Rattle.flux_types.specs.Read.{ty_of}
use Rattle.flux_calculus.specs.Typing.{returning}
use Rattle.flux_core.specs.Walk.{frames_in, AreToBeUsed}
use Rattle.flux_core.proofs.TurnLaws.{TurnLeads, turn_work}
use Rattle.flux_core.proofs.WalkLabels.{TurnLabels}
use Rattle.flux_querytype.specs.Answers.{Leaves}
use Rattle.flux_querytype.proofs.MapLaws.{Treated}
use Rattle.flux_querytype.proofs.Weights.{weight, weights}
use Rattle.flux_querytype.proofs.query.+typing.Given as goal

abbrev pub decreases-type_of : goal.decreases-type_of
decreases-type_of g l = 2 * (weight (query_of l.query.now))

abbrev pub decreases-type_all : goal.decreases-type_all
decreases-type_all g l = 2 * (weights l.queries.now) + 1

abbrev pub decreases-type_element : goal.decreases-type_element
decreases-type_element g l = 2 * (weight (query_of l.content.now)) + 1

abbrev pub decreases-type_binding : goal.decreases-type_binding
decreases-type_binding g l = 2 * (weight (query_of l.bound.now) + weight (query_of l.body.now)) + 1

abbrev pub decreases-type_under : goal.decreases-type_under
decreases-type_under g l = 2 * (weight (query_of l.body.now)) + 1

abbrev pub decreases-type_choice : goal.decreases-type_choice
decreases-type_choice g l = 2 * (weight (query_of l.condition.now) + weight (query_of l.yes.now) + weight (query_of l.no.now)) + 1

abbrev pub decreases-type_condition : goal.decreases-type_condition
decreases-type_condition g l = 2 * (weight (query_of l.condition.now)) + 1

abbrev pub decreases-type_alike : goal.decreases-type_alike
decreases-type_alike g l = 2 * (weight (query_of l.left.now) + weight (query_of l.right.now)) + 1

abbrev pub decreases-type_less : goal.decreases-type_less
decreases-type_less g l = 2 * (weight (query_of l.left.now) + weight (query_of l.right.now)) + 1

abbrev pub decreases-type_number : goal.decreases-type_number
decreases-type_number g l = 2 * (weight (query_of l.number.now)) + 1

abbrev pub decreases-type_filter : goal.decreases-type_filter
decreases-type_filter g l = 2 * (weight (query_of l.from.now)) + 1

abbrev pub decreases-type_each : goal.decreases-type_each
decreases-type_each g l = 2 * (weight (query_of l.over.now) + weight (query_of l.step.now.body.now)) + 1

abbrev pub decreases-type_trees : goal.decreases-type_trees
decreases-type_trees g l = 2 * (weight (query_of l.step.now.body.now)) + 2

abbrev pub invariant-type_all-loop-query : goal.invariant-type_all-loop-query
invariant-type_all-loop-query g l = let D = g.D.Decider in record {
  left : Leaves D.definitions D.unnamed D.keeps D.known l.fn.decider l.decider l.fn.gamma l.gamma;
  behind : Behind (D.definitions l.fn.decider, D.unnamed l.fn.decider) l.fn.gamma l.span l.queries l.query-iterator.iter.rest.now l.outcome;
}

abbrev pub invariant-type_trees-loop-turn : goal.invariant-type_trees-loop-turn
invariant-type_trees-loop-turn g l =
    let D = g.D.Decider in
    let defs = D.definitions l.fn.decider in
    record {
      left : Leaves D.definitions D.unnamed D.keeps D.known l.fn.decider l.decider l.fn.gamma l.gamma;
      place : l.walk.place ≡ l.step.span.from;
      waiting : AreToBeUsed defs (frames_in l.walk);
      labels : TurnLabels (λ m. ¬ (m ≡ D.unnamed l.fn.decider)) (frames_in l.walk) l.turn;
      leads : TurnLeads defs (Treated defs l.step.span.from (returning l.fn.gamma l.step.var (query_of l.step.body.now))) l.step.span.from (ty_of l.fn.ty) (frames_in l.walk) l.turn;
    }

abbrev pub decreases-type_trees-loop-turn : goal.decreases-type_trees-loop-turn
decreases-type_trees-loop-turn g l = turn_work (g.D.Decider.definitions l.fn.decider) (frames_in l.walk) l.turn
