use Rattle.flux_types.specs.Read.{ty_of}
use Rattle.flux_core.specs.Walk.{before, frames_of}
use Rattle.flux_core.proofs.Walking.{Downward}
use Rattle.flux_core.proofs.Work.{type_work}
use Rattle.flux_core.proofs.walk.descend.Given as goal

abbrev pub invariant-loop-ty : goal.invariant-loop-ty
invariant-loop-ty l = Downward l.defs (before (frames_of l.fn.frames.items) (ty_of l.fn.ty)) (frames_of l.frames.items) (ty_of l.ty)

abbrev pub decreases-loop-ty : goal.decreases-loop-ty
decreases-loop-ty l = type_work l.defs (ty_of l.ty)
