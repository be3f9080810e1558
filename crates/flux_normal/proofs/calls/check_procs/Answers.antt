use Rattle.std.proofs.Common.{flat_map, sym, ap, ◌∙◌}
use Rattle.flux_grammar.specs.declared.tree.ProcDef.{ProcDef}
use Rattle.flux_grammar.specs.NormalFaults.{first, calls}
use Rattle.flux_normal.specs.Calls.{misfits, misfits_in}
use Rattle.flux_normal.proofs.CallLaws.{of_bodies, passed, stopped, ended}
use Rattle.flux_normal.proofs.calls.check_procs.Goals as goal

pub loop-proc-preserved : goal.loop-proc-preserved
loop-proc-preserved c =
    passed c.args.procedures.now (λ (p : ProcDef). flat_map calls p.body) c.args.procs.now c.loop-proc.proc-index c.proc-item.result c.loop-proc-test.true c.proc-item.is (ap (λ ss. first (misfits_in c.args.procedures.now ss)) (sym c.as_slice.ensures) ∙ c.in-Ok.ensures) c.loop-proc.invariant

pub returns-in-Err : goal.returns-in-Err
returns-in-Err c =
    ap (λ cs. first (misfits c.args.procedures.now cs)) (of_bodies c.args.procs.now)
    ∙ stopped c.args.procedures.now (λ (p : ProcDef). flat_map calls p.body) c.args.procs.now c.loop-proc.proc-index c.proc-item.result c.in-Err.misfit c.loop-proc-test.true c.proc-item.is (ap (λ ss. first (misfits_in c.args.procedures.now ss)) (sym c.as_slice.ensures) ∙ c.in-Err.ensures) c.loop-proc.invariant

pub returns : goal.returns
returns c =
    ap (λ cs. first (misfits c.args.procedures.now cs)) (of_bodies c.args.procs.now)
    ∙ ended c.args.procedures.now (λ (p : ProcDef). flat_map calls p.body) c.args.procs.now c.loop-proc.proc-index c.loop-proc-test.false c.loop-proc.invariant
