use Rattle.std.proofs.Common.{◌≡◌, ◌+◌, ◌*◌, drop}
use Rattle.flux_types.specs.Read.{ty_of}
use Rattle.flux_core.specs.Statements.{core_of, procs_of}
use Rattle.flux_core.specs.Walk.{frames_in, AreToBeUsed}
use Rattle.flux_core.proofs.TurnLaws.{TurnLeads, turn_work}
use Rattle.flux_core.proofs.WalkLabels.{TurnLabels}
use Rattle.flux_querytype.specs.Answers.{Leaves}
use Rattle.flux_check.specs.Ones.{measured_type}
use Rattle.flux_check.proofs.Maps.{AtTree}
use Rattle.flux_check.proofs.Sequences.{Going}
use Rattle.flux_check.proofs.Weights.{weight, weights}
use Rattle.flux_check.proofs.statement.+typing.Given as goal

abbrev pub decreases-type_core : goal.decreases-type_core
decreases-type_core g l = 2 * (weight (core_of l.core.now))

abbrev pub decreases-type_all : goal.decreases-type_all
decreases-type_all g l = 2 * (weights l.statements.now) + 1

abbrev pub decreases-type_choice : goal.decreases-type_choice
decreases-type_choice g l = 2 * (weight (core_of l.parts.now.yes.now) + weight (core_of l.parts.now.no.now)) + 1

abbrev pub decreases-type_binding : goal.decreases-type_binding
decreases-type_binding g l = 2 * (weight (core_of l.bound.now.body.now)) + 1

abbrev pub decreases-type_snapshot : goal.decreases-type_snapshot
decreases-type_snapshot g l = 2 * (weight (core_of l.part.now.body.now)) + 1

abbrev pub decreases-type_test : goal.decreases-type_test
decreases-type_test g l = 2 * (weight (core_of l.tested.now.body.now)) + 1

abbrev pub decreases-type_children : goal.decreases-type_children
decreases-type_children g l = 2 * (weight (core_of l.part.now.body.now)) + 1

abbrev pub decreases-type_left : goal.decreases-type_left
decreases-type_left g l = 2 * (weight (core_of l.part.now.body.now)) + 1

abbrev pub decreases-type_right : goal.decreases-type_right
decreases-type_right g l = 2 * (weight (core_of l.part.now.body.now)) + 1

abbrev pub decreases-type_trees : goal.decreases-type_trees
decreases-type_trees g l = 2 * (weight (core_of l.part.now.body.now)) + 1

abbrev pub invariant-type_all-loop-statement : goal.invariant-type_all-loop-statement
invariant-type_all-loop-statement g l = let D = g.D.Decider in record {
  left : Leaves D.definitions D.unnamed D.keeps D.known l.fn.decider l.decider l.fn.gamma l.gamma;
  going : Going (D.definitions l.fn.decider) (D.unnamed l.fn.decider) l.fn.gamma (procs_of l.procs) (measured_type l.fn.focus) l.fn.span l.statements (drop l.statement-index l.statements) (measured_type l.made);
}

abbrev pub invariant-type_trees-loop-turn : goal.invariant-type_trees-loop-turn
invariant-type_trees-loop-turn g l =
    let D = g.D.Decider in
    let defs = D.definitions l.fn.decider in
    record {
      left : Leaves D.definitions D.unnamed D.keeps D.known l.fn.decider l.decider l.fn.gamma l.gamma;
      place : l.walk.place ≡ l.part.span.from;
      waiting : AreToBeUsed defs (frames_in l.walk);
      labels : TurnLabels (λ m. ¬ (m ≡ D.unnamed l.fn.decider)) (frames_in l.walk) l.turn;
      leads : TurnLeads defs (AtTree (procs_of l.procs) defs l.fn.gamma (core_of l.part.body.now)) l.part.span.from (ty_of l.fn.ty) (frames_in l.walk) l.turn;
    }

abbrev pub decreases-type_trees-loop-turn : goal.decreases-type_trees-loop-turn
decreases-type_trees-loop-turn g l = turn_work (g.D.Decider.definitions l.fn.decider) (frames_in l.walk) l.turn
