use Rattle.std.proofs.Common.{◌≡◌}
use Rattle.flux_schema.specs.Ty.{empty}
use Rattle.flux_types.specs.Read.{ty_of}
use Rattle.flux_core.specs.Walk.{behind, frames_of}
use Rattle.flux_core.proofs.Walking.{Upward}
use Rattle.flux_core.proofs.Work.{position_work}
use Rattle.flux_core.proofs.walk.Walk.put.Given as goal

abbrev pub invariant-loop-frame : goal.invariant-loop-frame
invariant-loop-frame l = record {
  place : l.self.place ≡ l.fn.self.place;
  upward : Upward l.defs (behind (frames_of l.fn.self.frames.items) (ty_of l.fn.made.ty.value)) (frames_of l.self.frames.items) (ty_of l.made.ty.value);
}

abbrev pub decreases-loop-frame : goal.decreases-loop-frame
decreases-loop-frame l = position_work l.defs (behind (frames_of l.self.frames.items) empty)
