use Rattle.flux_syntax.proofs.SoFar.{IsSoFar}
use Rattle.flux_syntax.proofs.pieces.pieces.Given as goal

abbrev pub invariant-loop-token : goal.invariant-loop-token
invariant-loop-token l = IsSoFar l.bytes l.tokens l.fn.names l.token-index l.names l.pieces.items
