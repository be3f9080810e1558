use Rattle.flux_core.specs.Statements.{core_of}
use Rattle.flux_normal.proofs.ProcLaws.{with_a_body}
use Rattle.flux_normal.proofs.bodies.with_body.Goals as goal

pub returns-clause-written : goal.returns-clause-written
returns-clause-written c = λ names p heads made fit. with_a_body names heads p c.args.header (core_of c.args.body) made fit
