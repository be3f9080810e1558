use Rattle.flux_calculus.proofs.Growing.{edits-follow, later-grows}
use Rattle.flux_calculus.proofs.laws.edits_grow.Goals as goal

pub returns-clause-follow : goal.returns-clause-follow
returns-clause-follow c = edits-follow

pub returns-clause-grow : goal.returns-clause-grow
returns-clause-grow c = λ m n a. later-grows a
