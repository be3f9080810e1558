use Rattle.std.proofs.Common.{◌∙◌, refl, sym, ap, arith}
use Rattle.flux_calculus.specs.Core.{in_order}
use Rattle.std.proofs.Common.{map}
use Rattle.flux_core.specs.Statements.{core_of, procs_of}
use Rattle.flux_core.proofs.Variants.{of_skip, of_seq, of_if, of_let, of_snapshot, of_insert, of_delete, of_rename, of_test, of_children, of_left, of_right, of_iter, of_call}
use Rattle.flux_run.specs.Tasks.{left_of}
use Rattle.flux_run.proofs.Fitting.{fits_insert, fits_test, fits_call}
use Rattle.flux_run.proofs.Starting as starting
use Rattle.flux_run.proofs.steps.start.Goals as goal

pub start_call-requires-clause-fits : goal.start_call-requires-clause-fits
start_call-requires-clause-fits g c =
    fits_call _ (procs_of c.args.procs.now) (left_of c.args.control.now) (g.E.Editor.state c.args.editor.now) (core_of c.args.core.now) _ _ _ (of_call _ _ _ _ c.in-Call.is) (omega (arith, c.if-control-eq0.false)) c.requires

pub returns-in-Skip-clause-ok : goal.returns-in-Skip-clause-ok
returns-in-Skip-clause-ok g c =
    starting.start_skip _ (procs_of c.args.procs.now) (left_of c.args.control.now) (left_of c.args.control.now) (g.E.Editor.state c.args.editor.now) (g.E.Editor.state c.args.editor.now) (core_of c.args.core.now) _ (of_skip _ _ c.in-Skip.is) refl refl

pub returns-in_ok-start_rest-in-Seq-clause-ok : goal.returns-in_ok-start_rest-in-Seq-clause-ok
returns-in_ok-start_rest-in-Seq-clause-ok g c =
    starting.start_rest _ (procs_of c.args.procs.now) (left_of c.args.control.now) (left_of c.start_rest.new.control) (g.E.Editor.state c.args.editor.now) (g.E.Editor.state c.args.editor.now) (core_of c.args.core.now) c.in-Seq.at c.as_slice.result.now (of_seq _ c.in-Seq.statements c.in-Seq.at c.in-Seq.is ∙ ap (λ ss. in_order c.in-Seq.at (map core_of ss)) (sym c.as_slice.ensures)) refl c.in_ok-start_rest-in-Seq.ensures.ok

pub returns-in_ok-start_choice-in-If-clause-ok : goal.returns-in_ok-start_choice-in-If-clause-ok
returns-in_ok-start_choice-in-If-clause-ok g c =
    starting.start_choice _ (procs_of c.args.procs.now) (left_of c.args.control.now) (left_of c.start_choice.new.control) (g.E.Editor.state c.args.editor.now) (g.E.Editor.state c.args.editor.now) (core_of c.args.core.now) _ _ _ _ (of_if _ _ _ _ _ _ _ c.in-If.is c.get.ensures c.get-in-If.ensures) refl c.in_ok-start_choice-in-If.ensures.ok

pub returns-in_ok-start_binding-in-Let-clause-ok : goal.returns-in_ok-start_binding-in-Let-clause-ok
returns-in_ok-start_binding-in-Let-clause-ok g c =
    starting.start_binding _ (procs_of c.args.procs.now) (left_of c.args.control.now) (left_of c.start_binding.new.control) (g.E.Editor.state c.args.editor.now) (g.E.Editor.state c.args.editor.now) (core_of c.args.core.now) _ _ _ _ (of_let _ _ _ _ _ _ c.in-Let.is c.get-in-Let.ensures) refl c.in_ok-start_binding-in-Let.ensures.ok

pub returns-in_ok-start_snapshot-in-Snapshot-clause-ok : goal.returns-in_ok-start_snapshot-in-Snapshot-clause-ok
returns-in_ok-start_snapshot-in-Snapshot-clause-ok g c =
    starting.start_snapshot _ (procs_of c.args.procs.now) (left_of c.args.control.now) (left_of c.start_snapshot.new.control) (g.E.Editor.state c.args.editor.now) (g.E.Editor.state c.args.editor.now) (core_of c.args.core.now) _ _ _ (of_snapshot _ _ _ _ _ c.in-Snapshot.is c.get-in-Snapshot.ensures) refl c.in_ok-start_snapshot-in-Snapshot.ensures.ok

pub returns-in_ok-start_insert-in-Insert-clause-ok : goal.returns-in_ok-start_insert-in-Insert-clause-ok
returns-in_ok-start_insert-in-Insert-clause-ok g c =
    starting.start_insert _ (procs_of c.args.procs.now) (left_of c.args.control.now) (left_of c.start_insert.new.control) (g.E.Editor.state c.args.editor.now) (g.E.Editor.state c.start_insert.new.editor) (core_of c.args.core.now) _ _ (of_insert _ _ _ c.in-Insert.is) c.start_insert.ensures.same (fits_insert _ (procs_of c.args.procs.now) (left_of c.args.control.now) (g.E.Editor.state c.args.editor.now) (core_of c.args.core.now) _ _ (of_insert _ _ _ c.in-Insert.is) c.requires).0 c.in_ok-start_insert-in-Insert.ensures.ok

pub returns-in_ok-delete-in-Delete-clause-ok : goal.returns-in_ok-delete-in-Delete-clause-ok
returns-in_ok-delete-in-Delete-clause-ok g c =
    starting.start_delete _ (procs_of c.args.procs.now) (left_of c.args.control.now) (left_of c.args.control.now) (g.E.Editor.state c.args.editor.now) (g.E.Editor.state c.delete.new.self) (core_of c.args.core.now) _ (of_delete _ _ c.in-Delete.is) refl c.in_ok-delete-in-Delete.ensures.ok

pub returns-in_ok-rename-in-Rename-clause-ok : goal.returns-in_ok-rename-in-Rename-clause-ok
returns-in_ok-rename-in-Rename-clause-ok g c =
    starting.start_rename _ (procs_of c.args.procs.now) (left_of c.args.control.now) (left_of c.args.control.now) (g.E.Editor.state c.args.editor.now) (g.E.Editor.state c.rename.new.self) (core_of c.args.core.now) _ _ (of_rename _ _ _ c.in-Rename.is) refl c.in_ok-rename-in-Rename.ensures.ok

pub returns-in_ok-start_test-in-Test-clause-ok : goal.returns-in_ok-start_test-in-Test-clause-ok
returns-in_ok-start_test-in-Test-clause-ok g c =
    starting.start_test _ (procs_of c.args.procs.now) (left_of c.args.control.now) (left_of c.start_test.new.control) (g.E.Editor.state c.args.editor.now) (g.E.Editor.state c.args.editor.now) (core_of c.args.core.now) _ _ _ (of_test _ _ _ _ _ c.in-Test.is c.get-in-Test.ensures) refl (fits_test _ (procs_of c.args.procs.now) (left_of c.args.control.now) (g.E.Editor.state c.args.editor.now) (core_of c.args.core.now) _ _ _ (of_test _ _ _ _ _ c.in-Test.is c.get-in-Test.ensures) c.requires) c.in_ok-start_test-in-Test.ensures.ok

pub returns-in_ok-start_children-in-Children-clause-ok : goal.returns-in_ok-start_children-in-Children-clause-ok
returns-in_ok-start_children-in-Children-clause-ok g c =
    starting.start_children _ (procs_of c.args.procs.now) (left_of c.args.control.now) (left_of c.start_children.new.control) (g.E.Editor.state c.args.editor.now) (g.E.Editor.state c.start_children.new.editor) (core_of c.args.core.now) _ _ (of_children _ _ _ _ c.in-Children.is c.get-in-Children.ensures) c.in_ok-start_children-in-Children.ensures.ok

pub returns-in_ok-start_left-in-Left-clause-ok : goal.returns-in_ok-start_left-in-Left-clause-ok
returns-in_ok-start_left-in-Left-clause-ok g c =
    starting.start_left _ (procs_of c.args.procs.now) (left_of c.args.control.now) (left_of c.start_left.new.control) (g.E.Editor.state c.args.editor.now) (g.E.Editor.state c.start_left.new.editor) (core_of c.args.core.now) _ _ (of_left _ _ _ _ c.in-Left.is c.get-in-Left.ensures) c.in_ok-start_left-in-Left.ensures.ok

pub returns-in_ok-start_right-in-Right-clause-ok : goal.returns-in_ok-start_right-in-Right-clause-ok
returns-in_ok-start_right-in-Right-clause-ok g c =
    starting.start_right _ (procs_of c.args.procs.now) (left_of c.args.control.now) (left_of c.start_right.new.control) (g.E.Editor.state c.args.editor.now) (g.E.Editor.state c.start_right.new.editor) (core_of c.args.core.now) _ _ (of_right _ _ _ _ c.in-Right.is c.get-in-Right.ensures) c.in_ok-start_right-in-Right.ensures.ok

pub returns-in_ok-start_iter-in-Iter-clause-ok : goal.returns-in_ok-start_iter-in-Iter-clause-ok
returns-in_ok-start_iter-in-Iter-clause-ok g c =
    starting.start_iter _ (procs_of c.args.procs.now) (left_of c.args.control.now) (left_of c.start_iter.new.control) (g.E.Editor.state c.args.editor.now) (g.E.Editor.state c.start_iter.new.editor) (core_of c.args.core.now) _ _ (of_iter _ _ _ _ c.in-Iter.is c.get-in-Iter.ensures) c.in_ok-start_iter-in-Iter.ensures.ok

pub returns-in_ok-start_call-in-Call-clause-ok : goal.returns-in_ok-start_call-in-Call-clause-ok
returns-in_ok-start_call-in-Call-clause-ok g c =
    starting.start_call _ (procs_of c.args.procs.now) (left_of c.args.control.now) (left_of c.start_call.new.control) (g.E.Editor.state c.args.editor.now) (g.E.Editor.state c.args.editor.now) (core_of c.args.core.now) _ _ _ (of_call _ _ _ _ c.in-Call.is) refl (omega (arith, c.if-control-eq0.false)) c.in_ok-start_call-in-Call.ensures.ok
