use Rattle.std.proofs.Common.{drop, flat_map}
use Rattle.flux_schema.specs.Definitions.{declared_names}
use Rattle.flux_grammar.specs.NormalFaults.{written_in}
use Rattle.flux_normal.specs.Headers.{IsHeaderOf}
use Rattle.flux_normal.specs.Types.{AreFine}
use Rattle.flux_normal.proofs.HeaderLaws.{MadeSoFar}
use Rattle.flux_normal.proofs.headers.read_procs.Given as goal

abbrev pub invariant-loop-proc : goal.invariant-loop-proc
invariant-loop-proc l = record {
  fine : AreFine (declared_names l.known) (flat_map written_in (drop l.proc-index l.procs));
  made : MadeSoFar (IsHeaderOf (declared_names l.known)) l.procs l.proc-index l.headers.items;
}
