use Rattle.std.proofs.Common.{◌∷◌, refl}
use Rattle.flux_types.specs.Read.{ty_of}
use Rattle.flux_core.specs.Walk.{behind, before, frame_of, frames_of, stays}
use Rattle.flux_core.proofs.Walking.{upward_out, upward_second, upward_down, tree_on, refused_here, up_next, up_whole, down_some, down_none, turn_fault, fewer_second}
use Rattle.flux_core.proofs.walk.Walk.put.Goals as goal

pub loop-frame-init : goal.loop-frame-init
loop-frame-init c = record { place = refl; upward = record { walk = stays; waiting = c.requires.waiting } }

pub returns-in_err-made-clause-turn : goal.returns-in_err-made-clause-turn
returns-in_err-made-clause-turn c =
    let p = behind (frames_of c.args.self.now.frames.items) (ty_of c.args.made.ty.value) in
    let refused = refused_here c.args.defs.now c.loop-frame.self.place p c.loop-frame.self.frames.items c.pop.new.self.items c.in-Some.frame (ty_of c.loop-frame.made.ty.value) c.in_err-made.field-0.0 c.in-Some.ensures.items c.loop-frame.invariant.upward c.in_err-made.ensures in
    turn_fault c.args.defs.now c.loop-frame.self.place c.args.self.now.place p _ c.in_err-made.field-0.0 c.from_residual.result c.loop-frame.invariant.place c.from_residual.ensures.1 refused

pub returns-in-Some-2-clause-turn : goal.returns-in-Some-2-clause-turn
returns-in-Some-2-clause-turn c =
    let p = behind (frames_of c.args.self.now.frames.items) (ty_of c.args.made.ty.value) in
    let g = frame_of c.in-Next.frame in
    let rest = frames_of c.pop.new.self.items in
    let t = ty_of c.in-Next.ty in
    let turns = up_next c.args.defs.now c.loop-frame.self.place (frame_of c.in-Some.frame) (ty_of c.loop-frame.made.ty.value) c.in_ok-made.field-0 c.in-Next.frame c.in-Next.ty c.in-Next.is c.in_ok-made.ensures in
    let down = upward_second c.args.defs.now p c.loop-frame.self.frames.items c.pop.new.self.items c.in-Some.frame g (ty_of c.loop-frame.made.ty.value) t c.in-Some.ensures.items c.loop-frame.invariant.upward turns in
    let tree = down_some c.args.defs.now (before (g ∷ rest) t) (frames_of c.descend_in.new.frames.items) c.in_ok-tree-in-Next.field-0 c.in-Some-2.tree c.in-Some-2.is c.in_ok-tree-in-Next.ensures.down in
    tree_on c.args.defs.now p (g ∷ rest) (frames_of c.descend_in.new.frames.items) t (ty_of c.in-Some-2.tree) down tree

pub descend_in-requires-clause-usable : goal.descend_in-requires-clause-usable
descend_in-requires-clause-usable c =
    let p = behind (frames_of c.args.self.now.frames.items) (ty_of c.args.made.ty.value) in
    let turns = up_next c.args.defs.now c.loop-frame.self.place (frame_of c.in-Some.frame) (ty_of c.loop-frame.made.ty.value) c.in_ok-made.field-0 c.in-Next.frame c.in-Next.ty c.in-Next.is c.in_ok-made.ensures in
    (upward_second c.args.defs.now p c.loop-frame.self.frames.items c.pop.new.self.items c.in-Some.frame (frame_of c.in-Next.frame) (ty_of c.loop-frame.made.ty.value) (ty_of c.in-Next.ty) c.in-Some.ensures.items c.loop-frame.invariant.upward turns).usable

pub descend_in-requires-clause-waiting : goal.descend_in-requires-clause-waiting
descend_in-requires-clause-waiting c =
    let p = behind (frames_of c.args.self.now.frames.items) (ty_of c.args.made.ty.value) in
    let turns = up_next c.args.defs.now c.loop-frame.self.place (frame_of c.in-Some.frame) (ty_of c.loop-frame.made.ty.value) c.in_ok-made.field-0 c.in-Next.frame c.in-Next.ty c.in-Next.is c.in_ok-made.ensures in
    (upward_second c.args.defs.now p c.loop-frame.self.frames.items c.pop.new.self.items c.in-Some.frame (frame_of c.in-Next.frame) (ty_of c.loop-frame.made.ty.value) (ty_of c.in-Next.ty) c.in-Some.ensures.items c.loop-frame.invariant.upward turns).waiting

pub loop-frame-preserved-in-Whole : goal.loop-frame-preserved-in-Whole
loop-frame-preserved-in-Whole c =
    let p = behind (frames_of c.args.self.now.frames.items) (ty_of c.args.made.ty.value) in
    let concludes = up_whole c.args.defs.now c.loop-frame.self.place (frame_of c.in-Some.frame) (ty_of c.loop-frame.made.ty.value) c.in_ok-made.field-0 c.in-Whole.made c.in-Whole.is c.in_ok-made.ensures in
    record {
      place = c.loop-frame.invariant.place;
      upward = upward_out c.args.defs.now p c.loop-frame.self.frames.items c.pop.new.self.items c.in-Some.frame (ty_of c.loop-frame.made.ty.value) (ty_of c.in-Whole.made.ty.value) c.in-Some.ensures.items c.loop-frame.invariant.upward concludes c.in-Whole.made.limits;
    }

pub loop-frame-smaller : goal.loop-frame-smaller
loop-frame-smaller c =
    let g = frame_of c.in-Next.frame in
    let rest = frames_of c.pop.new.self.items in
    let t = ty_of c.in-Next.ty in
    let after = frames_of c.descend_in.new.frames.items in
    let turns = up_next c.args.defs.now c.loop-frame.self.place (frame_of c.in-Some.frame) (ty_of c.loop-frame.made.ty.value) c.in_ok-made.field-0 c.in-Next.frame c.in-Next.ty c.in-Next.is c.in_ok-made.ensures in
    let walk = down_none c.args.defs.now (before (g ∷ rest) t) after c.in_ok-tree-in-Next.field-0 c.in-None.is c.in_ok-tree-in-Next.ensures.down in
    fewer_second c.args.defs.now c.loop-frame.self.frames.items c.pop.new.self.items c.in-Some.frame g (ty_of c.loop-frame.made.ty.value) t after c.requires.defs c.in-Some.ensures.items turns walk

pub loop-frame-preserved : goal.loop-frame-preserved
loop-frame-preserved c =
    let p = behind (frames_of c.args.self.now.frames.items) (ty_of c.args.made.ty.value) in
    let g = frame_of c.in-Next.frame in
    let rest = frames_of c.pop.new.self.items in
    let t = ty_of c.in-Next.ty in
    let after = frames_of c.descend_in.new.frames.items in
    let turns = up_next c.args.defs.now c.loop-frame.self.place (frame_of c.in-Some.frame) (ty_of c.loop-frame.made.ty.value) c.in_ok-made.field-0 c.in-Next.frame c.in-Next.ty c.in-Next.is c.in_ok-made.ensures in
    let down = upward_second c.args.defs.now p c.loop-frame.self.frames.items c.pop.new.self.items c.in-Some.frame g (ty_of c.loop-frame.made.ty.value) t c.in-Some.ensures.items c.loop-frame.invariant.upward turns in
    let walk = down_none c.args.defs.now (before (g ∷ rest) t) after c.in_ok-tree-in-Next.field-0 c.in-None.is c.in_ok-tree-in-Next.ensures.down in
    record {
      place = c.loop-frame.invariant.place;
      upward = upward_down c.args.defs.now p (g ∷ rest) after t (ty_of c.in_ok-made-in-None.made.ty.value) down walk c.in_ok-tree-in-Next.ensures.waiting c.in_ok-made-in-None.ensures;
    }
