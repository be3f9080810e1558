use Rattle.std.proofs.Common.{refl, subst, sym, ◌∙◌}
use Rattle.flux_grammar.specs.declared.tree.ProcDef.{ProcDef}
use Rattle.flux_grammar.specs.Nesting.{core_level, most_nested}
use Rattle.flux_grammar.specs.NormalForm.{proc_names}
use Rattle.flux_grammar.specs.NormalStatements.{stmts_form}
use Rattle.flux_normal.specs.Levels.{told}
use Rattle.flux_normal.proofs.LevelLaws.{Parts, of_part}
use Rattle.flux_normal.proofs.BodyLaws.{with_main}
use Rattle.flux_normal.proofs.levels.check_nesting.Goals as goal

pub returns : goal.returns
returns c =
    let names = proc_names c.args.script.now in
    with_main names c.args.script.now.procs c.args.script.now.body most_nested _ _
    (subst (λ ps. Parts core_level (λ (p : ProcDef). stmts_form names p.body) most_nested ps (told c.check_procs-procs.result)) c.as_slice.ensures (c.check_procs-procs.ensures names))
    (of_part core_level (stmts_form names) c.args.script.now.body c.as_slice-2.result.now most_nested _ _ c.as_slice-2.ensures refl (c.check_statements-main.ensures names))
    ∙ sym c.both.ensures
