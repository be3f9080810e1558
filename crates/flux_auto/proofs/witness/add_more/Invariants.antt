use Rattle.flux_auto.specs.Witness.{Round}
use Rattle.flux_auto.proofs.witness.add_more.Given as goal

abbrev pub invariant-loop-state : goal.invariant-loop-state
invariant-loop-state l = Round l.rows l.other l.fn.known l.known l.state l.more
