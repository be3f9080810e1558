use Rattle.std.proofs.Common.{length}
use Rattle.flux_doctext.proofs.Drafts.{EachDraftLabel}
use Rattle.flux_doctext.proofs.tests.written.Given as goal

abbrev pub invariant-loop-step : goal.invariant-loop-step
invariant-loop-step g l = EachDraftLabel (length l.names) l.forest
