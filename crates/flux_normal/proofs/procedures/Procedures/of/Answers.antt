use Rattle.flux_normal.proofs.ProcedureLaws.{heads_grow, procs_grow, proc_again, procs_end, heads_end, still_first}
use Rattle.flux_normal.proofs.procedures.Procedures.of.Goals as goal

pub loop-proc-preserved : goal.loop-proc-preserved
loop-proc-preserved c = record {
  heads = heads_grow c.args.procs.now c.loop-proc.proc-index c.proc-item.result c.loop-proc.parameters.entries c.add.new.parameters.entries c.loop-proc-test.true c.proc-item.is c.in-Ok.ensures.ok c.loop-proc.invariant.heads;
  repeats = procs_grow c.args.procs.now c.loop-proc.proc-index c.proc-item.result c.loop-proc.parameters.entries c.add.new.parameters.entries c.loop-proc-test.true c.proc-item.is c.in-Ok.ensures.ok c.in-Ok.ensures.differ c.loop-proc.invariant.repeats;
}

pub returns-in-Err-clause-fault : goal.returns-in-Err-clause-fault
returns-in-Err-clause-fault c =
    still_first _ _ c.in-Err.fault (λ place found. proc_again c.args.procs.now c.loop-proc.proc-index c.proc-item.result c.loop-proc.parameters.entries place c.loop-proc-test.true c.proc-item.is found c.loop-proc.invariant.repeats) c.in-Err.ensures.fault
