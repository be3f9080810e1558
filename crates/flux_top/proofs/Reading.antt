-- What is written spells the forest that is derived.
use Rattle.std.proofs.Common.{◌≡◌, refl, ℕ, List, Option, Some, None}
use Rattle.std.specs.Io.KnownBytes.{append_known}
use Rattle.flux_io.specs.Outside.{Held}
use Rattle.flux_doctext.specs.Text.{text, NamesLabel, IsProper}
use Rattle.flux_doctext.proofs.LabelLaws.{spelled_over}
use Rattle.flux_doctext.proofs.CanonicalLaws.{text_spells}
use Rattle.flux_top.specs.Words.{run, form}
use Rattle.flux_top.specs.Answer.{Answer, core_script, done}
use Rattle.flux_top.specs.Clauses.{IsOutput, IsTextOfResult, ReadsBack}
use Rattle.flux_top.specs.declared.status.Status.TheVariants.{Done}
use Rattle.flux_top.proofs.Asked.{one_kind}
use Rattle.flux_top.proofs.Kept.{deletion_holds}

answer_reads_back : (held : Held) (words : List (List ℕ)) (output line : List ℕ) (s d : List ℕ) → form words ≡ Some (run s d) → Answer held words Done output line → IsTextOfResult held words output
answer_reads_back held words _ _ s d is (core_script named normal) = absurd (one_kind held words _ _ _ named.form_is is)
answer_reads_back held words _ _ s d is (done {document} {names} path {v} {w} asked named short read derived) =
    let over = spelled_over names document v read in
    let kept = deletion_holds (NamesLabel names) IsProper (λ b. tt) path derived (over.labels, over.atoms) in
    record {
      names = names;
      path = path;
      document = document;
      before = v;
      after = w;
      text = text names w;
      asked = asked;
      named = named;
      read = read;
      derived = derived;
      output_is = refl;
      spells = text_spells names w over.table kept.0 kept.1;
    }

pub reads_back : (holds : Option Held) (words : List (List ℕ)) (old new : Option (List ℕ)) (output : List ℕ) → IsOutput holds words output → new ≡ append_known old output → ReadsBack holds words old new
reads_back None words old new output is grown = tt
reads_back (Some held) words old new output (line, answer) grown = λ s d is. (output, answer_reads_back held words output line s d is answer, grown)
