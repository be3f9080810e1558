use Rattle.std.proofs.Common.{map}
use Rattle.flux_grammar.specs.NormalQueries.{of_all, query_form}
use Rattle.flux_normal.proofs.FormLaws.{called}
use Rattle.flux_normal.proofs.queries.Normalizer.call.Goals as goal

pub returns : goal.returns
returns c =
    called c.args.procs.now c.args.name c.in-Some.found.index (of_all (map query_form c.args.exprs.now)) c.in_ok-queries.queries c.args.span c.args.self.now.made c.queries.new.self.made c.in-Some.ensures.0 c.in_ok-queries.ensures
