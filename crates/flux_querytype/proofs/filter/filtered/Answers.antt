use Rattle.std.proofs.Common.{◌∙◌, refl, sym, ap}
use Rattle.flux_types.specs.Read.{ty_of}
use Rattle.flux_calculus.specs.Typing.{keeping, typed}
use Rattle.flux_core.specs.Faults.{ShowsNothing}
use Rattle.flux_core.specs.Walk.{frames_in}
use Rattle.flux_core.proofs.TurnLaws.{first_leads, first_fault, next_leads, next_fault, tree_fault, turn_at, turn_over, turn_less}
use Rattle.flux_querytype.proofs.MapLaws.{Treated, mapped, answer_mapped}
use Rattle.flux_querytype.proofs.filter.filtered.Goals as goal

pub returns-in_err-turn : goal.returns-in_err-turn
returns-in_err-turn c =
    let defs = c.args.defs.now in
    let f = keeping c.args.test.now in
    answer_mapped defs c.args.place ShowsNothing f (ty_of c.args.ty) c.from_residual.result
    (first_fault ShowsNothing defs (Treated defs c.args.place f) c.args.place (ty_of c.args.ty) defs c.new-walk.result.place (frames_in c.new-walk.result) (frames_in c.enter.new.self) c.in_err-turn.field-0.0 c.from_residual.result refl c.new-walk.ensures.place c.new-walk.ensures.frames c.in_err-turn.ensures.turn c.from_residual.ensures.1)

pub loop-turn-init : goal.loop-turn-init
loop-turn-init c =
    let defs = c.args.defs.now in
    record {
      place = c.in_ok-turn.ensures.place ∙ c.new-walk.ensures.place;
      waiting = c.in_ok-turn.ensures.waiting;
      leads = first_leads defs (Treated defs c.args.place (keeping c.args.test.now)) c.args.place (ty_of c.args.ty) defs c.new-walk.result.place (frames_in c.new-walk.result) (frames_in c.enter.new.self) c.in_ok-turn.turn refl c.new-walk.ensures.place c.new-walk.ensures.frames c.in_ok-turn.ensures.turn;
    }

pub returns-in-Over : goal.returns-in-Over
returns-in-Over c =
    let defs = c.args.defs.now in
    let f = keeping c.args.test.now in
    mapped defs c.args.place f (turn_over defs (Treated defs c.args.place f) c.args.place (ty_of c.args.ty) (frames_in c.loop-turn.walk) c.loop-turn.turn c.in-Over.made c.in-Over.is c.loop-turn.invariant.leads)

pub returns-in_err-turn-in-At : goal.returns-in_err-turn-in-At
returns-in_err-turn-in-At c =
    let defs = c.args.defs.now in
    let f = keeping c.args.test.now in
    let at = c.args.place in
    let whole = ty_of c.args.ty in
    let gs = frames_in c.loop-turn.walk in
    let h = turn_at defs (Treated defs c.args.place f) at whole gs c.loop-turn.turn c.in-At.tree c.in-At.is c.loop-turn.invariant.leads in
    answer_mapped defs at ShowsNothing f whole c.from_residual-in_err-turn-in-At.result
    (next_fault ShowsNothing defs (Treated defs c.args.place f) at whole defs c.loop-turn.walk.place gs (frames_in c.put.new.self) (ty_of c.in-At.tree) (ty_of c.in_ok-made-in-At.made.ty.value) c.in_err-turn-in-At.field-0.0 c.from_residual-in_err-turn-in-At.result refl c.loop-turn.invariant.place h.0 h.2 c.in_ok-made-in-At.ensures c.in_ok-made-in-At.made.limits c.in_err-turn-in-At.ensures.turn c.from_residual-in_err-turn-in-At.ensures.1)

pub loop-turn-smaller : goal.loop-turn-smaller
loop-turn-smaller c =
    let defs = c.args.defs.now in
    let gs = frames_in c.loop-turn.walk in
    let h = turn_at defs (Treated defs c.args.place (keeping c.args.test.now)) c.args.place (ty_of c.args.ty) gs c.loop-turn.turn c.in-At.tree c.in-At.is c.loop-turn.invariant.leads in
    turn_less defs defs c.loop-turn.walk.place gs (frames_in c.put.new.self) c.in-At.tree (ty_of c.in_ok-made-in-At.made.ty.value) c.loop-turn.turn c.in_ok-turn-in-At.turn refl c.requires.defs c.in-At.is h.0 c.in_ok-turn-in-At.ensures.turn

pub loop-turn-preserved : goal.loop-turn-preserved
loop-turn-preserved c =
    let defs = c.args.defs.now in
    let f = keeping c.args.test.now in
    let at = c.args.place in
    let whole = ty_of c.args.ty in
    let gs = frames_in c.loop-turn.walk in
    let h = turn_at defs (Treated defs c.args.place f) at whole gs c.loop-turn.turn c.in-At.tree c.in-At.is c.loop-turn.invariant.leads in
    record {
      place = c.in_ok-turn-in-At.ensures.place ∙ c.loop-turn.invariant.place;
      waiting = c.in_ok-turn-in-At.ensures.waiting;
      leads = next_leads defs (Treated defs c.args.place f) at whole defs c.loop-turn.walk.place gs (frames_in c.put.new.self) (ty_of c.in-At.tree) (ty_of c.in_ok-made-in-At.made.ty.value) c.in_ok-turn-in-At.turn refl c.loop-turn.invariant.place h.0 h.2 c.in_ok-made-in-At.ensures c.in_ok-made-in-At.made.limits c.in_ok-turn-in-At.ensures.turn;
    }

pub returns-in_err-made-in-At : goal.returns-in_err-made-in-At
returns-in_err-made-in-At c =
    let defs = c.args.defs.now in
    let f = keeping c.args.test.now in
    let at = c.args.place in
    let whole = ty_of c.args.ty in
    let gs = frames_in c.loop-turn.walk in
    let h = turn_at defs (Treated defs c.args.place f) at whole gs c.loop-turn.turn c.in-At.tree c.in-At.is c.loop-turn.invariant.leads in
    answer_mapped defs at ShowsNothing f whole c.from_residual-in_err-made-in-At.result
    (tree_fault ShowsNothing defs (Treated defs c.args.place f) at whole gs (ty_of c.in-At.tree) c.in_err-made-in-At.field-0.0 c.from_residual-in_err-made-in-At.result h.0 h.2 c.in_err-made-in-At.ensures c.from_residual-in_err-made-in-At.ensures.1)
