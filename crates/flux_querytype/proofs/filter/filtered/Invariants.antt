use Rattle.std.proofs.Common.{◌≡◌}
use Rattle.flux_types.specs.Read.{ty_of}
use Rattle.flux_calculus.specs.Typing.{keeping}
use Rattle.flux_core.specs.Walk.{frames_in, AreToBeUsed}
use Rattle.flux_core.proofs.TurnLaws.{TurnLeads, turn_work}
use Rattle.flux_querytype.proofs.MapLaws.{Treated}
use Rattle.flux_querytype.proofs.filter.filtered.Given as goal

abbrev pub invariant-loop-turn : goal.invariant-loop-turn
invariant-loop-turn l = record {
  place : l.walk.place ≡ l.place;
  waiting : AreToBeUsed l.defs (frames_in l.walk);
  leads : TurnLeads l.defs (Treated l.defs l.place (keeping l.test)) l.place (ty_of l.fn.ty) (frames_in l.walk) l.turn;
}

abbrev pub decreases-loop-turn : goal.decreases-loop-turn
decreases-loop-turn l = turn_work l.defs (frames_in l.walk) l.turn
