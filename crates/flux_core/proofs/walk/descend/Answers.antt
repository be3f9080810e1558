use Rattle.flux_types.specs.Read.{ty_of}
use Rattle.flux_core.specs.Walk.{before, frames_of, stays}
use Rattle.flux_core.proofs.Walking.{past, down_seq, down_alt, down_star, down_name, name_less}
use Rattle.flux_core.proofs.walk.descend.Goals as goal

pub loop-ty-init : goal.loop-ty-init
loop-ty-init c = record { walk = stays; usable = c.requires.usable; waiting = c.requires.waiting }

pub returns-in-Empty-clause-down : goal.returns-in-Empty-clause-down
returns-in-Empty-clause-down c = past c.args.defs.now (before (frames_of c.args.frames.now.items) (ty_of c.args.ty)) (frames_of c.loop-ty.frames.items) c.loop-ty.ty c.in-Empty.is c.loop-ty.invariant

pub loop-ty-preserved-in_ok-push-in-Seq : goal.loop-ty-preserved-in_ok-push-in-Seq
loop-ty-preserved-in_ok-push-in-Seq c =
    down_seq c.args.defs.now (before (frames_of c.args.frames.now.items) (ty_of c.args.ty)) c.loop-ty.frames.items c.push.new.self.items c.loop-ty.ty c.in-Seq.first c.in-Seq.second c.into_inner-in-Seq.result c.into_inner.result
    c.in-Seq.is c.into_inner-in-Seq.ensures c.into_inner.ensures c.in_ok-push-in-Seq.ensures.items c.loop-ty.invariant

pub loop-ty-preserved-in_ok-push-in-Alt : goal.loop-ty-preserved-in_ok-push-in-Alt
loop-ty-preserved-in_ok-push-in-Alt c =
    down_alt c.args.defs.now (before (frames_of c.args.frames.now.items) (ty_of c.args.ty)) c.loop-ty.frames.items c.push-in-Alt.new.self.items c.loop-ty.ty c.in-Alt.first c.in-Alt.second c.into_inner-in-Alt-2.result c.into_inner-in-Alt.result
    c.in-Alt.is c.into_inner-in-Alt-2.ensures c.into_inner-in-Alt.ensures c.in_ok-push-in-Alt.ensures.items c.loop-ty.invariant

pub loop-ty-preserved-in_ok-push-in-Star : goal.loop-ty-preserved-in_ok-push-in-Star
loop-ty-preserved-in_ok-push-in-Star c =
    down_star c.args.defs.now (before (frames_of c.args.frames.now.items) (ty_of c.args.ty)) c.loop-ty.frames.items c.push-in-Star.new.self.items c.loop-ty.ty c.in-Star.part c.into_inner-in-Star.result
    c.in-Star.is c.into_inner-in-Star.ensures c.in_ok-push-in-Star.ensures.items c.loop-ty.invariant

pub loop-ty-smaller : goal.loop-ty-smaller
loop-ty-smaller c = name_less c.args.defs.now c.loop-ty.ty c.in_ok-ty-in-Named.ty c.unfold.result.now c.in-Named.index c.requires.defs c.in-Named.is c.unfold.ensures.body c.in_ok-ty-in-Named.ensures

pub loop-ty-preserved : goal.loop-ty-preserved
loop-ty-preserved c =
    down_name c.args.defs.now (before (frames_of c.args.frames.now.items) (ty_of c.args.ty)) (frames_of c.loop-ty.frames.items) c.loop-ty.ty c.in_ok-ty-in-Named.ty c.unfold.result.now c.in-Named.index
    c.requires.defs c.in-Named.is c.unfold.ensures.body c.in_ok-ty-in-Named.ensures c.loop-ty.invariant
