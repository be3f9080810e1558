use Rattle.std.proofs.Common.{subst}
use Rattle.flux_schema.specs.Definitions.{IsGood}
use Rattle.flux_schema.proofs.FitsLaws.{is_member-true}
use Rattle.flux_types.proofs.defs.membership_computes.Goals as goal

pub returns : goal.returns
returns c = is_member-true c.args.defs.now (subst IsGood c.defs.view_is c.defs.invariant.good)
