use Rattle.std.proofs.Common.{◌≡◌, ◌⊎◌, ◌∙◌, ap, inl, inr, subst}
use Rattle.std.specs.Io.KnownBytes.{append_known}
use Rattle.flux_io.specs.Outside.{Rose}
use Rattle.flux_top.specs.Words.{texts}
use Rattle.flux_top.specs.declared.status.Status.{Status}
use Rattle.flux_top.specs.declared.status.Status.TheVariants.{Memory}
use Rattle.flux_top.specs.Prepare.{IsEarlyRefusal}
use Rattle.flux_top.proofs.Answering.{ended_status, ended_lacking, ended_complete, ended_line, output_lacking}
use Rattle.flux_top.specs.Clauses.{IsOutput}
use Rattle.flux_top.proofs.Reading.{reads_back}
use Rattle.flux_top.proofs.run.flux.Goals as goal
use Rattle.flux_top.proofs.run.flux.Goals.{After-refuse, In-Ok}

-- the status is that of the refusal, or of want of memory
kept : (s t : Status) (P : Type 0) → (s ≡ Memory) ⊎ ((s ≡ t) × P) → (s ≡ Memory) ⊎ (s ≡ t)
kept s t P (inl memory) = inl memory
kept s t P (inr (same, shown)) = inr same

early : (g : _) (c : After-refuse g) → IsEarlyRefusal (g.F.Folder.holds c.args.folder.now) (texts c.args.words.now.items) (Rose (g.F.Folder.faults c.args.folder.now) (g.F.Folder.faults c.prepare.new.folder)) c.in-Err.refusal
early g c =
    subst (λ l. IsEarlyRefusal (g.F.Folder.holds c.args.folder.now) (texts l) (Rose (g.F.Folder.faults c.args.folder.now) (g.F.Folder.faults c.prepare.new.folder)) c.in-Err.refusal) c.as_slice.ensures.value c.in-Err.ensures.refused

pub returns-in-Err-clause-status : goal.returns-in-Err-clause-status
returns-in-Err-clause-status g c =
    ended_status (texts c.args.words.now.items) _ _ c.in-Err.refusal _ (kept _ _ _ c.refuse.ensures.status) _ (early g c)

pub returns-in-Err-clause-missing : goal.returns-in-Err-clause-missing
returns-in-Err-clause-missing g c =
    ended_lacking (texts c.args.words.now.items) _ (Rose (g.W.Sink.faults c.args.out.now) (g.W.Sink.faults c.args.out.now)) c.in-Err.refusal _ (kept _ _ _ c.refuse.ensures.status) _ (early g c)

pub returns-in-Err-clause-complete : goal.returns-in-Err-clause-complete
returns-in-Err-clause-complete g c =
    ended_complete (texts c.args.words.now.items) _ _ c.in-Err.refusal _ (kept _ _ _ c.refuse.ensures.status) _ (early g c)

pub returns-in-Err-clause-line : goal.returns-in-Err-clause-line
returns-in-Err-clause-line g c =
    ended_line (texts c.args.words.now.items) _ (Rose (g.W.Sink.faults c.args.out.now) (g.W.Sink.faults c.args.out.now)) c.in-Err.refusal _ (kept _ _ _ c.refuse.ensures.status) _ _ _ _ (early g c) c.refuse.ensures.status

output_is : (g : _) (c : In-Ok g) → IsOutput (g.F.Folder.holds c.args.folder.now) (texts c.args.words.now.items) c.in-Ok.output.items
output_is g c =
    subst (λ l. IsOutput (g.F.Folder.holds c.args.folder.now) (texts l) c.in-Ok.output.items) c.as_slice.ensures.value c.in-Ok.ensures.output

pub returns-in-Err-Failed-clause-missing : goal.returns-in-Err-Failed-clause-missing
returns-in-Err-Failed-clause-missing g c =
    output_lacking (g.F.Folder.holds c.args.folder.now) (texts c.args.words.now.items) c.in-Ok.output.items _ (output_is g (goal.at.returns-in-Err-Failed-clause-missing g c).In-Ok)

pub returns-in-Ok-write_all-clause-reads_back : goal.returns-in-Ok-write_all-clause-reads_back
returns-in-Ok-write_all-clause-reads_back g c = λ done.
    let grown = c.in-Ok-write_all.ensures.whole ∙ ap (append_known (g.W.Sink.written c.args.out.now)) c.as_slice-2.ensures.value in
    reads_back (g.F.Folder.holds c.args.folder.now) (texts c.args.words.now.items) _ _ c.in-Ok.output.items (output_is g (goal.at.returns-in-Ok-write_all-clause-reads_back g c).In-Ok) grown
