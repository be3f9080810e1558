use Rattle.flux_subtype.specs.Search.{Fills}
use Rattle.flux_subtype.proofs.search.fill.Given as goal

abbrev pub invariant-loop-rest : goal.invariant-loop-rest
invariant-loop-rest l = Fills l.part l.fn.kept.entries l.kept.entries l.head l.leaps l.fn.rests.start l.rest
