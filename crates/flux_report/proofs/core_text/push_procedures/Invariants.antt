use Rattle.std.proofs.Common.{◌≡◌, ◌++◌, drop}
use Rattle.std.specs.Prelude.{flat_map}
use Rattle.flux_core.specs.Statements.{procs_of}
use Rattle.flux_report.specs.CoreText.{procedure_text}
use Rattle.flux_report.proofs.core_text.push_procedures.Given as goal

abbrev pub invariant-loop-index : goal.invariant-loop-index
invariant-loop-index l = l.out.items ++ flat_map (procedure_text l.names l.defs (procs_of l.procs)) (drop l.index (procs_of l.procs)) ≡ l.fn.out.items ++ flat_map (procedure_text l.names l.defs (procs_of l.procs)) (procs_of l.procs)
