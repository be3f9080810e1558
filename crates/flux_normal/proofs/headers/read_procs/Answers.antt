use Rattle.flux_schema.specs.Definitions.{declared_names}
use Rattle.flux_grammar.specs.NormalFaults.{written_in}
use Rattle.flux_normal.specs.Headers.{IsHeaderOf}
use Rattle.flux_normal.proofs.HeaderLaws.{made_begin, made_one, made_all, fine_here, fine_later}
use Rattle.flux_normal.proofs.headers.read_procs.Goals as goal

pub read_proc-requires : goal.read_proc-requires
read_proc-requires c =
    fine_here (declared_names c.args.known.now) written_in c.args.procs.now c.loop-proc.proc-index c.proc-item.result c.loop-proc-test.true c.proc-item.is c.loop-proc.invariant.fine

pub loop-proc-preserved : goal.loop-proc-preserved
loop-proc-preserved c = record {
  fine = fine_later (declared_names c.args.known.now) written_in c.args.procs.now c.loop-proc.proc-index c.proc-item.result c.loop-proc-test.true c.proc-item.is c.loop-proc.invariant.fine;
  made = made_one (IsHeaderOf (declared_names c.args.known.now)) c.args.procs.now c.loop-proc.proc-index c.proc-item.result _ c.loop-proc.headers.items _ c.loop-proc-test.true c.proc-item.is c.in_ok-read_proc.ensures c.in_ok-push.ensures.items c.loop-proc.invariant.made;
}

pub returns : goal.returns
returns c = made_all (IsHeaderOf (declared_names c.args.known.now)) c.args.procs.now c.loop-proc.proc-index c.loop-proc.headers.items c.loop-proc-test.false c.loop-proc.invariant.made
