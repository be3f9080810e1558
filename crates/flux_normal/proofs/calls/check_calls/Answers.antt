use Rattle.std.proofs.Common.{flat_map, sym, ap, ◌∙◌}
use Rattle.flux_grammar.specs.declared.tree.ProcDef.{ProcDef}
use Rattle.flux_grammar.specs.NormalFaults.{first, calls}
use Rattle.flux_normal.specs.Calls.{misfits_in}
use Rattle.flux_normal.proofs.CallLaws.{later, sooner, in_script}
use Rattle.flux_normal.proofs.calls.check_calls.Goals as goal

pub returns-in-Ok : goal.returns-in-Ok
returns-in-Ok c =
    let heads = c.args.procedures.now in
    let script = c.args.script.now in
    ap first (in_script script.procs script.body heads c.requires)
    ∙ later heads (flat_map calls (flat_map (λ (p : ProcDef). p.body) script.procs)) (flat_map calls script.body) _
    (ap (λ ps. first (misfits_in heads (flat_map (λ (p : ProcDef). p.body) ps))) (sym c.as_slice.ensures) ∙ c.in-Ok.ensures)
    (ap (λ ss. first (misfits_in heads ss)) (sym c.as_slice-in-Ok.ensures) ∙ c.check_statements.ensures)

pub returns-in-Err : goal.returns-in-Err
returns-in-Err c =
    let heads = c.args.procedures.now in
    let script = c.args.script.now in
    ap first (in_script script.procs script.body heads c.requires)
    ∙ sooner heads (flat_map calls (flat_map (λ (p : ProcDef). p.body) script.procs)) (flat_map calls script.body) c.in-Err.misfit
    (ap (λ ps. first (misfits_in heads (flat_map (λ (p : ProcDef). p.body) ps))) (sym c.as_slice.ensures) ∙ c.in-Err.ensures)
