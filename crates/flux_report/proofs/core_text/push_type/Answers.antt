use Rattle.std.proofs.Common.{length}
use Rattle.flux_types.specs.Read.{ty_of}
use Rattle.flux_report.proofs.Texts.{writable}
use Rattle.flux_report.proofs.core_text.push_type.Goals as goal

pub write_type-requires : goal.write_type-requires
write_type-requires c = writable (length c.args.names.now) c.args.defs.now (ty_of c.args.ty.now) c.requires.defs c.requires.labels c.requires.known
