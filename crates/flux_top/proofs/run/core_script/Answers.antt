use Rattle.std.proofs.Common.{[], ◌≡◌, ◌++◌, ◌∙◌, sym, ap, subst, Some, List, ℕ}
use Rattle.std.specs.Prelude.{IfSome}
use Rattle.std.proofs.lemmas.Result.{err_from_is_err_and}
use Rattle.flux_core.specs.Normals.{normal_of}
use Rattle.flux_io.specs.Outside.{file}
use Rattle.flux_report.specs.CoreText.{core_text}
use Rattle.flux_top.specs.Words.{core}
use Rattle.flux_report.proofs.KnownNames.{names_known}
use Rattle.flux_top.proofs.Preparing.{early_script, early_reading, core_prepared}
use Rattle.flux_top.proofs.run.core_script.Goals as goal
use Rattle.flux_top.proofs.run.core_script.Goals.{After-as_slice}

pub returns-in_err-script-clause-refused : goal.returns-in_err-script-clause-refused
returns-in_err-script-clause-refused g c =
    let p = err_from_is_err_and c.from_residual.result c.from_residual.ensures.1 in
    rw (p.1, p.2) (λ words is. early_script words (core c.args.script.now) is _ _ _ c.in_err-script.ensures.refused)

there : (g : _) (c : After-as_slice g) → IfSome (g.F.Folder.holds c.args.folder.now) (λ held. file held c.args.script.now ≡ Some c.as_slice.result.now)
there g c =
    subst (λ (l : List ℕ). IfSome (g.F.Folder.holds c.args.folder.now) (λ held. file held c.args.script.now ≡ Some l)) (sym c.as_slice.ensures.value) c.in_ok-script.ensures.whole

pub returns-in_err-reading-clause-refused : goal.returns-in_err-reading-clause-refused
returns-in_err-reading-clause-refused g c =
    let p = err_from_is_err_and c.from_residual-in_err-reading.result c.from_residual-in_err-reading.ensures.1 in
    let before = (goal.at.returns-in_err-reading-clause-refused g c).After-as_slice in
    rw (p.1, p.2) (λ words is. early_reading words (core c.args.script.now) is _ _ _ c.as_slice.result.now (there g before) c.in_err-reading.ensures.refused)

pub write_core-requires : goal.write_core-requires
write_core-requires g c =
    let normal = c.in_ok-reading.ensures.normal in
    names_known c.read_script.new.names _ _ _ _ normal.reads.reads normal.form

pub returns-in-Ok-clause-output : goal.returns-in-Ok-clause-output
returns-in-Ok-clause-output g c = λ words is.
    let before = (goal.at.returns-in-Ok-clause-output g c).After-as_slice in
    let written = c.in-Ok.ensures.ok ∙ ap (λ (l : List ℕ). l ++ core_text c.read_script.new.names (normal_of c.in_ok-reading.reading.normal)) c.new-output.ensures.items in
    core_prepared words c.args.script.now is _ c.as_slice.result.now _ _ _ _ (there g before) c.in_ok-reading.ensures.normal written
