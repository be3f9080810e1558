use Rattle.std.proofs.Common.{refl}
use Rattle.flux_schema.specs.Definitions.{declared_names}
use Rattle.flux_normal.proofs.Named.{not_among, among_at}
use Rattle.flux_normal.proofs.types.declare_one.Goals as goal

pub returns-in-Ok-clause-fresh : goal.returns-in-Ok-clause-fresh
returns-in-Ok-clause-fresh c = not_among (declared_names c.args.draft.now) c.args.name c.in-Ok.ensures.fresh

pub returns-in-Err-Duplicate-clause-fault : goal.returns-in-Err-Duplicate-clause-fault
returns-in-Err-Duplicate-clause-fault c =
    let at = rw c.in-Err-Duplicate.field-0-is at c.in-Err-Duplicate.ensures.fault in
    (refl, among_at (declared_names c.args.draft.now) c.in-Err-Duplicate.field-0-0 c.args.name at)
