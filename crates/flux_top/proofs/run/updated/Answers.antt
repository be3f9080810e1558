use Rattle.std.proofs.Common.{[], ◌≡◌, ◌<◌, ◌≤◌, sym, ap, subst, Some, List, ℕ, length, map, arith}
use Rattle.std.specs.Prelude.{Option, IfSome}
use Rattle.std.proofs.lemmas.Result.{err_from_is_err_and}
use Rattle.flux_io.specs.Outside.{Held, file}
use Rattle.flux_trees.specs.Draft.{Draft, outer}
use Rattle.flux_trees.specs.Each.{EachLabel}
use Rattle.flux_doctext.specs.Text.{name_text}
use Rattle.flux_doctext.proofs.TextLaws.{labels_within}
use Rattle.flux_calculus.specs.Derives.{Derives}
use Rattle.flux_top.specs.Paths.{standard, delete_on}
use Rattle.flux_top.specs.Words.{run}
use Rattle.flux_top.specs.Script.{DeletesPath}
use Rattle.flux_top.proofs.Preparing.{rose_later, refusal_later, early_script, early_deletion, early_document, early_forest, asks, prepared, steps_stay}
use Rattle.flux_doctext.proofs.LabelLaws.{spelled_over}
use Rattle.flux_top.proofs.run.updated.Goals as goal
use Rattle.flux_top.proofs.run.updated.Goals.{After-as_slice, In_ok-path, In_ok-document, In_ok-forest}

pub returns-in_err-script-clause-refused : goal.returns-in_err-script-clause-refused
returns-in_err-script-clause-refused g c =
    let p = err_from_is_err_and c.from_residual.result c.from_residual.ensures.1 in
    rw (p.1, p.2) (λ words is. early_script words (run c.args.script.now c.args.document.now) is _ _ _ c.in_err-script.ensures.refused)

there : (g : _) (c : After-as_slice g) → IfSome (g.F.Folder.holds c.args.folder.now) (λ held. file held c.args.script.now ≡ Some c.as_slice.result.now)
there g c =
    subst (λ (l : List ℕ). IfSome (g.F.Folder.holds c.args.folder.now) (λ held. file held c.args.script.now ≡ Some l)) (sym c.as_slice.ensures.value) c.in_ok-script.ensures.whole

within : (g : _) (c : After-as_slice g) → length c.as_slice.result.now ≤ 1048576
within g c = omega (arith, ap length c.as_slice.ensures.value, c.in_ok-script.ensures.within)

pub returns-in_err-path-clause-refused : goal.returns-in_err-path-clause-refused
returns-in_err-path-clause-refused g c =
    let p = err_from_is_err_and c.from_residual-in_err-path.result c.from_residual-in_err-path.ensures.1 in
    let before = (goal.at.returns-in_err-path-clause-refused g c).After-as_slice in
    rw (p.1, p.2) (λ words is. early_deletion words c.args.script.now c.args.document.now is _ _ _ c.as_slice.result.now (there g before) (within g before) c.in_err-path.ensures.refused)

pub returns-in_err-document-clause-refused : goal.returns-in_err-document-clause-refused
returns-in_err-document-clause-refused g c =
    let p = err_from_is_err_and c.from_residual-in_err-document.result c.from_residual-in_err-document.ensures.1 in
    let before = (goal.at.returns-in_err-document-clause-refused g c).After-as_slice in
    rw (p.1, p.2) (λ words is.
    let asked = asks words c.args.script.now c.args.document.now is _ c.as_slice.result.now (map (name_text c.read_deletion.new.names) c.in_ok-path.path.items) (there g before) (within g before) c.in_ok-path.ensures.path in
    early_document words c.args.script.now c.args.document.now is _ _ _ _ asked (refusal_later _ _ _ _ _ _ _ _ c.read_file.ensures.same (rose_later _ _ _ c.read_file.ensures.later) c.in_err-document.ensures.refused))

-- the document that is there, as the folder was when the run began
document_there : (g : _) (c : In_ok-document g) → IfSome (g.F.Folder.holds c.args.folder.now) (λ held. file held c.args.document.now ≡ Some c.in_ok-document.document.items)
document_there g c =
    subst (λ (h : Option Held). IfSome h (λ held. file held c.args.document.now ≡ Some c.in_ok-document.document.items)) c.read_file.ensures.same c.in_ok-document.ensures.whole

pub returns-in_err-forest-clause-refused : goal.returns-in_err-forest-clause-refused
returns-in_err-forest-clause-refused g c =
    let p = err_from_is_err_and c.from_residual-in_err-forest.result c.from_residual-in_err-forest.ensures.1 in
    let before = (goal.at.returns-in_err-forest-clause-refused g c).After-as_slice in
    let read = (goal.at.returns-in_err-forest-clause-refused g c).In_ok-document in
    rw (p.1, p.2) (λ words is.
    let asked = asks words c.args.script.now c.args.document.now is _ c.as_slice.result.now (map (name_text c.read_deletion.new.names) c.in_ok-path.path.items) (there g before) (within g before) c.in_ok-path.ensures.path in
    early_forest words c.args.script.now c.args.document.now is _ _ _ _ c.in_ok-document.document.items asked (document_there g read) c.in_ok-document.ensures.within c.in_err-forest.ensures.refused)

pub result_text-requires-clause-known : goal.result_text-requires-clause-known
result_text-requires-clause-known g c =
    let read = c.in_ok-forest.ensures.forest in
    subst (λ (d : Draft (Unit {0})). EachLabel (λ a. a < length c.read_forest.new.names) (outer d)) (sym read.1) (labels_within c.read_forest.new.names read.0 (spelled_over c.read_forest.new.names c.in_ok-document.document.items read.0 read.2).labels)

pub returns-in-Ok-clause-output : goal.returns-in-Ok-clause-output
returns-in-Ok-clause-output g c = λ words is.
    let before = (goal.at.returns-in-Ok-clause-output g c).After-as_slice in
    let read = (goal.at.returns-in-Ok-clause-output g c).In_ok-document in
    let grown = c.read_forest.ensures.grown in
    let deletes : DeletesPath c.as_slice.result.now (map (name_text c.read_forest.new.names) c.in_ok-path.path.items) =
    subst (λ (l : List (List ℕ)). DeletesPath c.as_slice.result.now (map (name_text l) c.in_ok-path.path.items)) (sym grown.1) (steps_stay _ _ grown.0 _ c.in_ok-path.ensures.known c.in_ok-path.ensures.path) in
    let asked = asks words c.args.script.now c.args.document.now is _ c.as_slice.result.now (map (name_text c.read_forest.new.names) c.in_ok-path.path.items) (there g before) (within g before) deletes in
    let read_as = c.in_ok-forest.ensures.forest in
    let made = c.in-Ok.ensures in
    let derived : Derives [] standard [] read_as.0 (delete_on c.in_ok-path.path.items) made.0 =
    subst (λ (l : List ℕ). Derives [] standard [] read_as.0 (delete_on l) made.0) c.as_slice-2.ensures.value (subst (λ (d : Draft (Unit {0})). Derives [] standard [] (outer d) (delete_on c.as_slice-2.result.now) made.0) read_as.1 made.1) in
    prepared words c.args.script.now c.args.document.now is _ _ _ c.in_ok-document.document.items _ _ _ asked (document_there g read) c.in_ok-document.ensures.within read_as.2 derived made.2
