use Rattle.flux_calculus.specs.Notation.{numbering}
use Rattle.flux_calculus.proofs.NotedAgree.{noted-gives, gives-noted, noted_one}
use Rattle.flux_calculus.proofs.laws.numbered_derivation_is_computed.Goals as goal

pub returns-clause-computed : goal.returns-clause-computed
returns-clause-computed c = λ procs d γ fs v m s w n. ((λ a. noted-gives numbering procs a), (λ e. gives-noted numbering procs d γ s fs v w m n e))

pub returns-clause-unique : goal.returns-clause-unique
returns-clause-unique c = λ procs d γ fs v m s w x n o a b. noted_one numbering procs a b
