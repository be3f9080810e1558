use Rattle.flux_types.specs.Read.{ty_of}
use Rattle.flux_types.specs.Kept.{IsKnownAtTop}
use Rattle.flux_types.proofs.DefsLaws.{Follows, steps}
use Rattle.flux_types.proofs.defs.single.Given as goal

abbrev pub invariant-loop-ty : goal.invariant-loop-ty
invariant-loop-ty l = Follows l.defs (ty_of l.fn.ty) (ty_of l.ty) × IsKnownAtTop l.defs (ty_of l.ty)

abbrev pub decreases-loop-ty : goal.decreases-loop-ty
decreases-loop-ty l = steps l.defs (ty_of l.ty)
