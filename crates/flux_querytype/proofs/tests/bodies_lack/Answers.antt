use Rattle.std.proofs.Common.{◌<◌, arith}
use Rattle.flux_schema.proofs.Ranks.{body_within}
use Rattle.flux_querytype.proofs.tests.bodies_lack.Goals as goal

pub returns : goal.returns
returns c = λ so x t e.
    let within = body_within c.args.defs.now x t e in
    let below : x < c.loop-index.index = omega arith in
    c.loop-index.invariant x t below e
