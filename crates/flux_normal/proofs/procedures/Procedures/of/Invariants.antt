use Rattle.std.proofs.Common.{◌≡◌, ◌++◌, [], map, drop}
use Rattle.flux_grammar.specs.NormalFaults.{repeated_procs}
use Rattle.flux_normal.specs.Procedures.{head_written}
use Rattle.flux_normal.proofs.procedures.Procedures.of.Given as goal

abbrev pub invariant-loop-proc : goal.invariant-loop-proc
invariant-loop-proc l = record {
  heads : l.parameters.entries ++ map head_written (drop l.proc-index l.procs) ≡ map head_written l.procs;
  repeats : repeated_procs [] l.procs ≡ repeated_procs (map (λ h. h.0) l.parameters.entries) (drop l.proc-index l.procs);
}
