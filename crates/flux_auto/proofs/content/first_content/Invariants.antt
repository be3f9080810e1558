use Rattle.flux_types.specs.Read.{ty_of}
use Rattle.flux_auto.proofs.Contents.{NoneBefore}
use Rattle.flux_auto.proofs.content.first_content.Given as goal

abbrev pub invariant-loop-index : goal.invariant-loop-index
invariant-loop-index l = NoneBefore l.cells l.index (ty_of l.ty)
