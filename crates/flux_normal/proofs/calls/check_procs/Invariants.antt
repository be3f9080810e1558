use Rattle.std.proofs.Common.{flat_map}
use Rattle.flux_grammar.specs.declared.tree.ProcDef.{ProcDef}
use Rattle.flux_grammar.specs.NormalFaults.{calls}
use Rattle.flux_normal.proofs.CallLaws.{Left}
use Rattle.flux_normal.proofs.calls.check_procs.Given as goal

abbrev pub invariant-loop-proc : goal.invariant-loop-proc
invariant-loop-proc l = Left l.procedures (λ (p : ProcDef). flat_map calls p.body) l.procs l.proc-index
