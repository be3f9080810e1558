-- The words are one command at most, and name one script and one document.
use Rattle.std.proofs.Common.{◌≡◌, ◌≤◌, ◌∙◌, refl, ap, sym, subst, ℕ, List, [], length, Some, None}
use Rattle.flux_io.specs.Outside.{Held, file}
use Rattle.flux_top.specs.Words.{Command, run, core, script_of, form}
use Rattle.flux_top.specs.Script.{script_limit, IsScriptFault, DeletesPath}
use Rattle.flux_top.proofs.Scripts.{no_fault}
use Rattle.flux_report.specs.declared.line.ScriptFault.{ScriptFault}
use Rattle.flux_top.specs.Answer.{NamesScript, NamesDocument, AsksDeletion}

some_same : (X : Type 0) (x y : X) → Some x ≡ Some y → x ≡ y
some_same X x y e = cc

document_same : (a b c d : List ℕ) → run a b ≡ run c d → b ≡ d
document_same a b c d e = cc

module _ (held : Held) (words : List (List ℕ)) where
  same_command : (c d : Command) → form words ≡ Some c → form words ≡ Some d → c ≡ d
  same_command c d e f = some_same Command c d (sym e ∙ f)

  pub no_form : (c : Command) → form words ≡ Some c → form words ≡ None → ⊥
  no_form c e f = let both : Some c ≡ None = sym e ∙ f in cc

  -- the words don't ask for a normal form and for a run
  pub one_kind : (a b c : List ℕ) → form words ≡ Some (core a) → form words ≡ Some (run b c) → ⊥
  one_kind a b c e f = let both : core a ≡ run b c = same_command _ _ e f in cc

  pub script_one : {c d : Command} (s t : List ℕ) → NamesScript held words c s → NamesScript held words d t → s ≡ t
  script_one s t a b =
      let names = ap script_of (same_command _ _ a.form_is b.form_is) in
      let both : Some s ≡ Some t = sym a.is_there ∙ ap (file held) names ∙ b.is_there in
      cc

  pub document_one : (s t : List ℕ) → NamesDocument held words s → NamesDocument held words t → s ≡ t
  document_one s t a b =
      let names = document_same _ _ _ _ (same_command _ _ a.form_is b.form_is) in
      let both : Some s ≡ Some t = sym a.is_there ∙ ap (file held) names ∙ b.is_there in
      cc

  pub asks_short : {steps : List (List ℕ)} {c : Command} (s : List ℕ) → AsksDeletion held words steps → NamesScript held words c s → length s ≤ script_limit
  asks_short s asked named = subst (λ t. length t ≤ script_limit) (script_one asked.script s asked.named named) asked.within

  pub asks_path : {steps : List (List ℕ)} {c : Command} (s : List ℕ) → AsksDeletion held words steps → NamesScript held words c s → DeletesPath s steps
  asks_path {steps} s asked named = subst (λ t. DeletesPath t steps) (script_one asked.script s asked.named named) asked.deletes

  -- a script that deletes a path has no fault
  pub faulty_asks : {steps : List (List ℕ)} {c : Command} (s : List ℕ) (fault : ScriptFault) → NamesScript held words c s → IsScriptFault s fault → AsksDeletion held words steps → ⊥
  faulty_asks s fault named is asked =
      let deletes = asks_path s asked named in
      no_fault s fault deletes.tree deletes.texts is (asks_short s asked named) deletes.reads deletes.no_fault

  pub script_there : {c d : Command} (s : List ℕ) → form words ≡ Some c → file held (script_of c) ≡ None → NamesScript held words d s → ⊥
  script_there s is lacks named =
      let names = ap script_of (same_command _ _ named.form_is is) in
      let both : Some s ≡ None = sym named.is_there ∙ ap (file held) names ∙ lacks in
      cc

  pub document_there : {a b : List ℕ} (d : List ℕ) → form words ≡ Some (run a b) → file held b ≡ None → NamesDocument held words d → ⊥
  document_there d is lacks named =
      let names = document_same _ _ _ _ (same_command _ _ named.form_is is) in
      let both : Some d ≡ None = sym named.is_there ∙ ap (file held) names ∙ lacks in
      cc
