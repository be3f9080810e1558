use Rattle.flux_types.specs.Read.{ty_of}
use Rattle.flux_normal.proofs.Extents.{mark_more}
use Rattle.flux_normal.proofs.written.made_marked.Goals as goal

pub loop-mark-preserved : goal.loop-mark-preserved
loop-mark-preserved c =
    mark_more (ty_of c.args.inner) (ty_of c.loop-mark.ty) (ty_of c.in_ok-ty.ty) c.args.marks.now c.loop-mark.mark-index _ c.loop-mark-test.true c.in_ok-ty.ensures c.loop-mark.invariant
