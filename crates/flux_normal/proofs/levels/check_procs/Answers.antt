use Rattle.std.proofs.Common.{ℕ, List, refl}
use Rattle.flux_grammar.specs.declared.tree.ProcDef.{ProcDef}
use Rattle.flux_grammar.specs.Nesting.{core_level, most_nested}
use Rattle.flux_grammar.specs.NormalStatements.{stmts_form}
use Rattle.flux_normal.proofs.LevelLaws.{of_part, turns, ends}
use Rattle.flux_normal.proofs.levels.check_procs.Goals as goal

pub loop-proc-preserved : goal.loop-proc-preserved
loop-proc-preserved c = λ names.
    turns core_level (λ (p : ProcDef). stmts_form names p.body) most_nested c.args.procs.now c.loop-proc.proc-index c.proc-item.result _ _ _ c.loop-proc-test.true c.proc-item.is (of_part core_level (stmts_form names) c.proc-item.result.body c.as_slice.result.now most_nested _ _ c.as_slice.ensures refl (c.check_statements.ensures names)) c.both-found.ensures (c.loop-proc.invariant names)

pub returns : goal.returns
returns c = λ names.
    ends core_level (λ (p : ProcDef). stmts_form names p.body) most_nested c.args.procs.now c.loop-proc.proc-index _ c.loop-proc-test.false (c.loop-proc.invariant names)
