use Rattle.flux_syntax.proofs.Leads.{takes_first}
use Rattle.flux_syntax.proofs.reader.Reader.advance.Goals as goal

pub returns-clause-took : goal.returns-clause-took
returns-clause-took c =
    λ l at. takes_first c.args.self.now.end c.args.self.now.left.now _ l c.requires at
