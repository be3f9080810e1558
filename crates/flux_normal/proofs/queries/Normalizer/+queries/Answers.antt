use Rattle.std.proofs.Common.{◌∙◌}
use Rattle.flux_grammar.specs.NormalQueries.{query_form}
use Rattle.flux_query.specs.Read.{query_of}
use Rattle.flux_normal.proofs.Stepped.{begun, stepped}
use Rattle.flux_normal.proofs.queries.Normalizer.+queries.Goals as goal

pub stepped-loop-step-init : goal.stepped-loop-step-init
stepped-loop-step-init t c =
    begun (query_form c.args.inner.now) c.args.steps.now (query_of c.in_ok-query.query) c.args.self.now.made c.query.new.self.made c.in_ok-query.ensures

pub stepped-loop-step-preserved : goal.stepped-loop-step-preserved
stepped-loop-step-preserved t c =
    stepped c.args.steps.now c.loop-step.step-index c.step-item.result (query_of c.loop-step.query) (query_of c.in_ok-query-2.query) c.loop-step.self.made c.step.new.self.made c.loop-step-test.true c.step-item.is c.in_ok-query-2.ensures ∙ c.loop-step.invariant
