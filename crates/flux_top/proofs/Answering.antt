-- An answer is the only one, and there is none where a file is lacking.
use Rattle.std.proofs.Common.{◌≡◌, ◌⊎◌, ◌≤◌, ◌∙◌, inl, inr, refl, ap, sym, subst, ℕ, List, [], length, Some, None, arith}
use Rattle.std.specs.Prelude.{Option, IfSome}
use Rattle.flux_io.specs.Outside.{Held, file}
use Rattle.flux_top.specs.Words.{form}
use Rattle.flux_top.specs.Lines.{status_of, line_of}
use Rattle.flux_top.specs.Script.{IsScriptFault, DeletesPath}
use Rattle.flux_top.proofs.Scripts.{deletes_or_none}
use Rattle.flux_top.proofs.Asked.{no_form, one_kind, asks_path, faulty_asks, script_there, document_there}
use Rattle.flux_top.proofs.Unique.{answer_one}
use Rattle.flux_report.specs.declared.line.ScriptFault.{ScriptFault}
use Rattle.flux_report.specs.declared.line.ScriptFault.TheVariants.{TooLong}
use Rattle.flux_doctext.specs.Spells.{Spells}
use Rattle.flux_top.specs.Answer.{NamesScript, NamesDocument, AsksDeletion, Answer, Lacking, usage, faulty_script, core_script, other_script, long_document, no_forest, done, no_script, no_document}
use Rattle.flux_top.specs.Clauses.{Answers, IsStatus, IsComplete, IsOutput, Appends, Shows}
use Rattle.flux_top.specs.Prepare.{IsEarlyRefusal}
use Rattle.flux_top.specs.declared.status.Status.{Status}
use Rattle.flux_top.specs.declared.status.Status.TheVariants.{Done, ReadFault, Memory}
use Rattle.flux_top.specs.declared.refusal.Refusal.{Refusal}
use Rattle.flux_top.specs.declared.refusal.Refusal.TheVariants.{WrongWords, LongScript, FaultyScript, OtherScript, LongDocument, NoForest, NoRead, NoWrite, NoMemory}

module _ (held : Held) (words : List (List ℕ)) where
  -- where a file is lacking there is no answer
  pub lacking_answer : {s : Status} {o l : List ℕ} → Answer held words s o l → Lacking held words → ⊥
  lacking_answer (usage none) (no_script is lacks) = no_form held words _ is none
  lacking_answer (usage none) (no_document asked is lacks) = no_form held words _ is none
  lacking_answer (faulty_script fault named wrong) (no_script is lacks) = script_there held words _ is lacks named
  lacking_answer (faulty_script {script = script} fault named wrong) (no_document asked is lacks) = faulty_asks held words script fault named wrong asked
  lacking_answer (core_script named is_normal) (no_script is lacks) = script_there held words _ is lacks named
  lacking_answer (core_script named is_normal) (no_document asked is lacks) = one_kind held words _ _ _ named.form_is is
  lacking_answer (other_script named short reads clear none) (no_script is lacks) = script_there held words _ is lacks named
  lacking_answer (other_script {script = script} {tree} {texts} named short reads clear none) (no_document {steps} asked is lacks) =
      deletes_or_none script tree texts steps reads none (asks_path held words script asked named)
  lacking_answer (long_document asked named long) (no_script is lacks) = script_there held words _ is lacks asked.named
  lacking_answer (long_document asked named long) (no_document _ is lacks) = document_there held words _ is lacks named
  lacking_answer (no_forest asked named short wrong) (no_script is lacks) = script_there held words _ is lacks asked.named
  lacking_answer (no_forest asked named short wrong) (no_document _ is lacks) = document_there held words _ is lacks named
  lacking_answer (done path asked named short spelled derived) (no_script is lacks) = script_there held words _ is lacks asked.named
  lacking_answer (done path asked named short spelled derived) (no_document _ is lacks) = document_there held words _ is lacks named

  -- where there is something to write, there is no other answer
  pub done_answer : {s : Status} {output o l m : List ℕ} → Answer held words Done output m → Answer held words s o l → s ≡ Done
  done_answer done_one other = (answer_one held words _ _ _ _ _ _ other done_one).0

  -- a refusal before the write has the status of the answer
  pub early_status : (read_rose write_rose : Type 0) (r : Refusal) → IsEarlyRefusal (Some held) words read_rose r → IsStatus held words read_rose write_rose (status_of r)
  early_status read_rose write_rose WrongWords none = ([], line_of WrongWords, usage none)
  early_status read_rose write_rose LongScript answer = ([], line_of LongScript, answer)
  early_status read_rose write_rose (FaultyScript line) (said, answer) = ([], line.items, answer)
  early_status read_rose write_rose OtherScript answer = ([], line_of OtherScript, answer)
  early_status read_rose write_rose LongDocument answer = ([], line_of LongDocument, answer)
  early_status read_rose write_rose (NoForest line column) answer = ([], line_of (NoForest line column), answer)
  early_status read_rose write_rose NoRead cause = cause
  early_status read_rose write_rose NoWrite none = absurd none
  early_status read_rose write_rose NoMemory any = tt

  -- where a file is lacking, the refusal is that of a read, or of memory
  pub lacking_status : (read_rose : Type 0) (r : Refusal) → IsEarlyRefusal (Some held) words read_rose r → Lacking held words → (status_of r ≡ ReadFault) ⊎ (status_of r ≡ Memory)
  lacking_status read_rose WrongWords none lacks = absurd (lacking_answer (usage none) lacks)
  lacking_status read_rose LongScript answer lacks = absurd (lacking_answer answer lacks)
  lacking_status read_rose (FaultyScript line) (said, answer) lacks = absurd (lacking_answer answer lacks)
  lacking_status read_rose OtherScript answer lacks = absurd (lacking_answer answer lacks)
  lacking_status read_rose LongDocument answer lacks = absurd (lacking_answer answer lacks)
  lacking_status read_rose (NoForest line column) answer lacks = absurd (lacking_answer answer lacks)
  lacking_status read_rose NoRead cause lacks = inl refl
  lacking_status read_rose NoWrite none lacks = absurd none
  lacking_status read_rose NoMemory any lacks = inr refl

  -- where there is something to write, only a fault or memory refuses it early
  pub done_status : (read_rose : Type 0) (r : Refusal) → IsEarlyRefusal (Some held) words read_rose r → Answers held words Done → ¬ read_rose → (status_of r ≡ Done) ⊎ (status_of r ≡ Memory)
  done_status read_rose WrongWords none (output, line, answer) calm = inl (done_answer answer (usage none))
  done_status read_rose LongScript refused (output, line, answer) calm = inl (done_answer answer refused)
  done_status read_rose (FaultyScript line) (said, refused) (output, other, answer) calm = inl (done_answer answer refused)
  done_status read_rose OtherScript refused (output, line, answer) calm = inl (done_answer answer refused)
  done_status read_rose LongDocument refused (output, line, answer) calm = inl (done_answer answer refused)
  done_status read_rose (NoForest line column) refused (output, other, answer) calm = inl (done_answer answer refused)
  done_status read_rose NoRead (inl (rises, form_is)) (output, line, answer) calm = absurd (calm rises)
  done_status read_rose NoRead (inr lacks) (output, line, answer) calm = absurd (lacking_answer answer lacks)
  done_status read_rose NoWrite none (output, line, answer) calm = absurd none
  done_status read_rose NoMemory any (output, line, answer) calm = inr refl

module _ (words : List (List ℕ)) (read_rose write_rose : Type 0) (r : Refusal) (result : Status) (kept : (result ≡ Memory) ⊎ (result ≡ status_of r)) where
  -- the same of the status that the run ends with, which is that of the refusal, or of want of memory
  pub ended_status : (holds : Option Held) → IsEarlyRefusal holds words read_rose r → IfSome holds (λ held. IsStatus held words read_rose write_rose result)
  ended_status None early = tt
  ended_status (Some held) early = by kept
    where
      by : (result ≡ Memory) ⊎ (result ≡ status_of r) → IsStatus held words read_rose write_rose result
      by (inl memory) = subst (IsStatus held words read_rose write_rose) (sym memory) tt
      by (inr same) = subst (IsStatus held words read_rose write_rose) (sym same) (early_status held words read_rose write_rose r early)

  pub ended_lacking : (holds : Option Held) → IsEarlyRefusal holds words read_rose r → IfSome holds (λ held. Lacking held words → (result ≡ ReadFault) ⊎ (result ≡ Memory))
  ended_lacking None early = tt
  ended_lacking (Some held) early = λ lacks. by kept (lacking_status held words read_rose r early lacks)
    where
      by : (result ≡ Memory) ⊎ (result ≡ status_of r) → (status_of r ≡ ReadFault) ⊎ (status_of r ≡ Memory) → (result ≡ ReadFault) ⊎ (result ≡ Memory)
      by (inl memory) of_r = inr memory
      by (inr same) (inl of_r) = inl (same ∙ of_r)
      by (inr same) (inr of_r) = inr (same ∙ of_r)

  pub ended_complete : (holds : Option Held) → IsEarlyRefusal holds words read_rose r → IfSome holds (λ held. IsComplete held words read_rose write_rose result)
  ended_complete None early = tt
  ended_complete (Some held) early = λ answers calm_read calm_write. by kept (done_status held words read_rose r early answers calm_read)
    where
      by : (result ≡ Memory) ⊎ (result ≡ status_of r) → (status_of r ≡ Done) ⊎ (status_of r ≡ Memory) → (result ≡ Done) ⊎ (result ≡ Memory)
      by (inl memory) of_r = inr memory
      by (inr same) (inl of_r) = inl (same ∙ of_r)
      by (inr same) (inr of_r) = inr (same ∙ of_r)

  -- its line is that of the refusal
  pub ended_line : (holds : Option Held) (old new : Option (List ℕ)) (rose : Type 0) → IsEarlyRefusal holds words read_rose r → (result ≡ Memory) ⊎ ((result ≡ status_of r) × Appends old new rose (line_of r)) → Shows holds words old new rose result
  ended_line holds old new rose early (inl memory) = subst (Shows holds words old new rose) (sym memory) tt
  ended_line holds old new rose early (inr (same, appended)) = subst (Shows holds words old new rose) (sym same) (by r early appended)
    where
      by : (r : Refusal) → IsEarlyRefusal holds words read_rose r → Appends old new rose (line_of r) → Shows holds words old new rose (status_of r)
      by WrongWords early appended = (line_of WrongWords, refl, appended)
      by LongScript early appended = (line_of LongScript, (inl ([], TooLong, tt, refl), early), appended)
      by (FaultyScript line) (said, answer) appended = (line.items, (said, answer), appended)
      by OtherScript early appended = (line_of OtherScript, (inr refl, early), appended)
      by LongDocument early appended = (line_of LongDocument, (inl refl, early), appended)
      by (NoForest line column) early appended = (line_of (NoForest line column), (inr (line, column, refl), early), appended)
      by NoRead early appended = (line_of NoRead, refl, appended)
      by NoWrite early appended = absurd early
      by NoMemory early appended = tt

-- where there is something to write, no file is lacking
pub output_lacking : (holds : Option Held) (words : List (List ℕ)) (output : List ℕ) (P : Type 0) → IsOutput holds words output → IfSome holds (λ held. Lacking held words → P)
output_lacking None words output P is = tt
output_lacking (Some held) words output P (line, answer) = λ lacks. absurd (lacking_answer held words answer lacks)
