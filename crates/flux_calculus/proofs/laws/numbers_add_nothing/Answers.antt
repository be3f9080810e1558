use Rattle.flux_calculus.specs.Notation.{numbering}
use Rattle.flux_calculus.proofs.Erased.{noted-derives, derives-noted}
use Rattle.flux_calculus.proofs.laws.numbers_add_nothing.Goals as goal

pub returns-clause-erased : goal.returns-clause-erased
returns-clause-erased c = λ procs d γ fs v m s w n a. noted-derives numbering a

pub returns-clause-found : goal.returns-clause-found
returns-clause-found c = λ procs d γ fs v m s x a. derives-noted numbering a fs m
