use Rattle.flux_calculus.proofs.Agree.{derives_one, exceeds_one, never_both}
use Rattle.flux_calculus.proofs.laws.run_is_unique.Goals as goal

pub returns-clause-derivation : goal.returns-clause-derivation
returns-clause-derivation c = λ procs d γ v s w x a b. derives_one a b

pub returns-clause-excess : goal.returns-clause-excess
returns-clause-excess c = λ procs d γ v s at place a b. exceeds_one a b

pub returns-clause-not_both : goal.returns-clause-not_both
returns-clause-not_both c = λ procs d γ v s w place a b. never_both a b
