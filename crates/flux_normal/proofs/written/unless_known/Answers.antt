use Rattle.std.proofs.Common.{sym}
use Rattle.flux_schema.specs.Definitions.{declared_names}
use Rattle.flux_normal.proofs.Named.{known_name, unknown_name}
use Rattle.flux_normal.proofs.written.unless_known.Goals as goal

pub returns-in-None : goal.returns-in-None
returns-in-None c = sym (unknown_name (declared_names c.args.known.now) c.args.name c.args.place c.lookup.result c.lookup.ensures c.in-None.is)

pub returns-in-Some : goal.returns-in-Some
returns-in-Some c = sym (known_name (declared_names c.args.known.now) c.args.name c.args.place c.lookup.result c.in-Some.field-0 c.lookup.ensures c.in-Some.is)
