use Rattle.std.proofs.Common.{length, ◌∙◌}
use Rattle.flux_doctext.proofs.Drafts.{EachDraftLabel-begin, EachDraftLabel-add, EachDraftLabel-end, EachDraftLabel-same}
use Rattle.flux_doctext.proofs.tests.written.Goals as goal
use Rattle.flux_doctext.proofs.tests.written.Goals.{in-Begin+else-assert+in_ok-name-in-Begin+in_ok-begin_element-in-Begin, in-End+else-assert-2, in-Truth+in_ok-push_atom-in-Truth, in-Text+in_ok-of-in-Text+in_ok-push_atom-in-Text}

pub loop-step-preserved : goal.loop-step-preserved
loop-step-preserved g c =
    elim c.match-step.branch [
      | in-Begin+else-assert+in_ok-name-in-Begin+in_ok-begin_element-in-Begin w ↦
          EachDraftLabel-same _ _ _ _ w.names-is (w.forest-is ∙ w.in_ok-begin_element-in-Begin.ensures.ok) (EachDraftLabel-begin c.loop-step.names w.intern.new.self w.in-Begin.label.now w.in_ok-name-in-Begin.name c.loop-step.forest c.loop-step.invariant w.in_ok-name-in-Begin.ensures.added w.in_ok-name-in-Begin.ensures.place)
      | in-End+else-assert-2 w ↦
          EachDraftLabel-same _ _ _ _ w.names-is (w.forest-is ∙ w.end_element.ensures) (EachDraftLabel-end (length c.loop-step.names) c.loop-step.forest c.loop-step.invariant)
      | in-Truth+in_ok-push_atom-in-Truth w ↦
          EachDraftLabel-same _ _ _ _ w.names-is (w.forest-is ∙ w.in_ok-push_atom-in-Truth.ensures.ok) (EachDraftLabel-add (length c.loop-step.names) c.loop-step.forest _ c.loop-step.invariant tt)
      | in-Text+in_ok-of-in-Text+in_ok-push_atom-in-Text w ↦
          EachDraftLabel-same _ _ _ _ w.names-is (w.forest-is ∙ w.in_ok-push_atom-in-Text.ensures.ok) (EachDraftLabel-add (length c.loop-step.names) c.loop-step.forest _ c.loop-step.invariant tt)
    ]
