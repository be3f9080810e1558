use Rattle.flux_normal.proofs.FittingCalls.{body_fits}
use Rattle.flux_normal.proofs.queries.Normalizer.body.Goals as goal

pub returns-clause-fit : goal.returns-clause-fit
returns-clause-fit c =
    body_fits c.args.procs.now c.args.stmts.now c.args.self.now.made c.statements.new.self.made c.statements.result c.requires c.statements.ensures
