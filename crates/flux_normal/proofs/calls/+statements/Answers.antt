use Rattle.std.proofs.Common.{sym, ap, ◌∙◌}
use Rattle.flux_grammar.specs.NormalFaults.{first, calls}
use Rattle.flux_normal.specs.Calls.{misfits, misfits_in, told_misfit}
use Rattle.flux_normal.proofs.CallLaws.{calls_if, calls_block, later, sooner, passed, stopped, ended}
use Rattle.flux_normal.proofs.calls.+statements.Goals as goal

pub check_statement-returns-in-Ok : goal.check_statement-returns-in-Ok
check_statement-returns-in-Ok t c =
    ap (λ cs. first (misfits c.args.procedures.now cs)) (ap calls c.in-If.is ∙ calls_if _ c.in-If.yes c.in-If.no _)
    ∙ later c.args.procedures.now (calls c.in-If.yes) (calls c.in-If.no) _
    (ap (λ s. first (misfits c.args.procedures.now (calls s))) (sym c.get.ensures) ∙ c.in-Ok.ensures)
    (ap (λ s. first (misfits c.args.procedures.now (calls s))) (sym c.get-in-Ok.ensures) ∙ c.check_statement-in-Ok.ensures)

pub check_statement-returns-in-Err : goal.check_statement-returns-in-Err
check_statement-returns-in-Err t c =
    ap (λ cs. first (misfits c.args.procedures.now cs)) (ap calls c.in-If.is ∙ calls_if _ c.in-If.yes c.in-If.no _)
    ∙ sooner c.args.procedures.now (calls c.in-If.yes) (calls c.in-If.no) c.in-Err.misfit
    (ap (λ s. first (misfits c.args.procedures.now (calls s))) (sym c.get.ensures) ∙ c.in-Err.ensures)

pub check_statement-returns-in-Block : goal.check_statement-returns-in-Block
check_statement-returns-in-Block t c =
    ap (λ cs. first (misfits c.args.procedures.now cs)) (ap calls c.in-Block.is ∙ calls_block c.in-Block.parts _)
    ∙ ap (λ ss. first (misfits_in c.args.procedures.now ss)) (sym c.as_slice-in-Block.ensures) ∙ c.check_statements.ensures

pub check_statements-loop-stmt-preserved : goal.check_statements-loop-stmt-preserved
check_statements-loop-stmt-preserved t c =
    passed c.args.procedures.now calls c.args.stmts.now c.loop-stmt.stmt-index c.stmt-item.result c.loop-stmt-test.true c.stmt-item.is c.in-Ok.ensures c.loop-stmt.invariant

pub check_statements-returns-in-Err : goal.check_statements-returns-in-Err
check_statements-returns-in-Err t c =
    stopped c.args.procedures.now calls c.args.stmts.now c.loop-stmt.stmt-index c.stmt-item.result c.in-Err.misfit c.loop-stmt-test.true c.stmt-item.is c.in-Err.ensures c.loop-stmt.invariant

pub check_statements-returns : goal.check_statements-returns
check_statements-returns t c = ended c.args.procedures.now calls c.args.stmts.now c.loop-stmt.stmt-index c.loop-stmt-test.false c.loop-stmt.invariant
