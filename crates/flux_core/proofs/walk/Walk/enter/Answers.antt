use Rattle.flux_types.specs.Read.{ty_of}
use Rattle.flux_core.specs.Walk.{before, frames_of}
use Rattle.flux_core.proofs.Walking.{down_none, turn_past}
use Rattle.flux_core.proofs.walk.Walk.enter.Goals as goal

pub returns-in_ok-made-in-None-clause-turn : goal.returns-in_ok-made-in-None-clause-turn
returns-in_ok-made-in-None-clause-turn c =
    let p = before (frames_of c.args.self.now.frames.items) (ty_of c.args.ty) in
    let gs = frames_of c.descend.new.frames.items in
    turn_past c.args.defs.now c.args.self.now.place p gs (frames_of c.put.new.self.frames.items) (ty_of c.in_ok-made-in-None.made.ty.value) c.put.result
    (down_none c.args.defs.now p gs c.in_ok-tree.field-0 c.in-None.is c.in_ok-tree.ensures.down) c.in_ok-made-in-None.ensures c.put.ensures.turn
