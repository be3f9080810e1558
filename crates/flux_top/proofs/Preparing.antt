-- What each part of a run that comes before the write says of the answer.
use Rattle.std.proofs.Common.{◌≡◌, ◌⊎◌, ◌≤◌, inl, inr, refl, sym, subst, ℕ, List, [], ◌∷◌, ◌++◌, length, map, Some, None, arith}
use Rattle.std.specs.Prelude.{Option, IsSome, IfSome}
use Rattle.flux_io.specs.Outside.{Held, file, Rose}
use Rattle.flux_trees.specs.Hedge.{Plain}
use Rattle.flux_doctext.specs.Text.{text, name_text}
use Rattle.flux_calculus.specs.Derives.{Derives}
use Rattle.flux_top.specs.Paths.{standard, delete_on}
use Rattle.flux_top.specs.Script.{script_limit, IsNormalScript, DeletesPath}
use Rattle.flux_doctext.specs.Spells.{Spells}
use Rattle.flux_calculus.specs.Core.{Normal}
use Rattle.flux_grammar.specs.declared.tree.Script.{Script as Tree}
use Rattle.flux_report.specs.CoreText.{core_text}
use Rattle.flux_report.specs.declared.line.ScriptFault.TheVariants.{TooLong}
use Rattle.flux_top.specs.Words.{Command, run, core, script_of, form}
use Rattle.flux_top.specs.Answer.{document_limit, NamesScript, NamesDocument, AsksDeletion, Answer, faulty_script, core_script, other_script, long_document, no_forest, done, no_script, no_document}
use Rattle.flux_top.specs.Clauses.{IsOutput}
use Rattle.flux_top.specs.Prepare.{IsFileRefusal, IsScriptRefusal, IsOtherRefusal, IsDeletionRefusal, IsNoForest, IsEarlyRefusal}
use Rattle.flux_top.specs.declared.refusal.Refusal.{Refusal}
use Rattle.flux_top.specs.declared.refusal.Refusal.TheVariants.{LongScript, FaultyScript, OtherScript, LongDocument, NoMemory}
use Rattle.flux_top.specs.declared.status.Status.TheVariants.{Script}
use Rattle.flux_top.proofs.Scripts.{fault_shown}
use Rattle.flux_top.proofs.Grown.{Within, path-more}

pub rose_later : (a b c : ℕ) → a ≤ b → Rose b c → Rose a c
rose_later a b c later (inl more) = inl (omega arith)
rose_later a b c later (inr last) = inr last

is_some : (words : List (List ℕ)) (c : Command) → form words ≡ Some c → IsSome (form words)
is_some words c is = subst IsSome (sym is) refl

module _ (words : List (List ℕ)) (c : Command) (is : form words ≡ Some c) where
  script_there : (held : Held) (script : List ℕ) → file held (script_of c) ≡ Some script → NamesScript held words c script
  script_there held script there = record { form_is = is; is_there = there }

  -- the script could not be read whole
  pub early_script : (holds : Option Held) (rose : Type 0) (r : Refusal) → IsFileRefusal holds (script_of c) script_limit LongScript rose r → IsEarlyRefusal holds words rose r
  early_script holds rose r (inl (no_read, inl rises)) = subst (IsEarlyRefusal holds words rose) (sym no_read) (inl (rises, is_some words c is))
  early_script None rose r (inl (no_read, inr lacks)) = absurd lacks
  early_script (Some held) rose r (inl (no_read, inr lacks)) = subst (IsEarlyRefusal (Some held) words rose) (sym no_read) (inr (no_script is lacks))
  early_script None rose r (inr (inl (long, how))) = subst (IsEarlyRefusal None words rose) (sym long) tt
  early_script (Some held) rose r (inr (inl (long, (bytes, there, more)))) =
      subst (IsEarlyRefusal (Some held) words rose) (sym long) (faulty_script TooLong (script_there held bytes there) more)
  early_script holds rose r (inr (inr no_memory)) = subst (IsEarlyRefusal holds words rose) (sym no_memory) tt

  -- the script was read, and has a fault
  pub early_reading : (holds : Option Held) (rose : Type 0) (r : Refusal) (script : List ℕ) → IfSome holds (λ held. file held (script_of c) ≡ Some script) → IsScriptRefusal script r → IsEarlyRefusal holds words rose r
  early_reading None rose (FaultyScript line) script there (fault, is, said) = (inl (script, fault, fault_shown script fault is, said), tt)
  early_reading (Some held) rose (FaultyScript line) script there (fault, is, said) =
      (inl (script, fault, fault_shown script fault is, said), subst (λ l. Answer held words Script [] l) (sym said) (faulty_script fault (script_there held script there) is))
  early_reading holds rose NoMemory script there refused = tt
  early_reading holds rose _ script there refused = absurd refused

module _ (words : List (List ℕ)) (s : List ℕ) (is : form words ≡ Some (core s)) where
  -- nothing is refused, and the script's normal form is asked for
  pub core_prepared : (holds : Option Held) (script output : List ℕ) (tree : Tree) (texts : List (List ℕ)) (normal : Normal) → IfSome holds (λ held. file held s ≡ Some script) → IsNormalScript script tree texts normal
      → output ≡ core_text texts normal → IsOutput holds words output
  core_prepared None script output tree texts normal there normal_is is_output = tt
  core_prepared (Some held) script output tree texts normal there normal_is is_output =
      subst (λ (o : List ℕ). IsOutput (Some held) words o) (sym is_output) ([], core_script (script_there words (core s) is held script there) normal_is)

module _ (words : List (List ℕ)) (s d : List ℕ) (is : form words ≡ Some (run s d)) where
  named_script : (held : Held) (script : List ℕ) → file held s ≡ Some script → NamesScript held words (run s d) script
  named_script = script_there words (run s d) is

  document_there : (held : Held) (document : List ℕ) → file held d ≡ Some document → NamesDocument held words document
  document_there held document there = record { script_name = s; document_name = d; form_is = is; is_there = there }

  -- the script has no fault, and can't be run yet
  early_other : (holds : Option Held) (rose : Type 0) (r : Refusal) (script : List ℕ) → IfSome holds (λ held. file held s ≡ Some script) → length script ≤ script_limit → IsOtherRefusal script r → IsEarlyRefusal holds words rose r
  early_other None rose OtherScript script there within refused = tt
  early_other (Some held) rose OtherScript script there within (tree, texts, reads, clear, none) = other_script (named_script held script there) within reads clear none
  early_other holds rose NoMemory script there within refused = tt
  early_other holds rose _ script there within refused = absurd refused

  pub early_deletion : (holds : Option Held) (rose : Type 0) (r : Refusal) (script : List ℕ) → IfSome holds (λ held. file held s ≡ Some script) → length script ≤ script_limit → IsDeletionRefusal script r → IsEarlyRefusal holds words rose r
  early_deletion holds rose r script there within (inl refused) = early_reading words (run s d) is holds rose r script there refused
  early_deletion holds rose r script there within (inr refused) = early_other holds rose r script there within refused

  pub asks : (holds : Option Held) (script : List ℕ) (steps : List (List ℕ)) → IfSome holds (λ held. file held s ≡ Some script) → length script ≤ script_limit → DeletesPath script steps
      → IfSome holds (λ held. AsksDeletion held words steps)
  asks None script steps there within deletes = tt
  asks (Some held) script steps there within deletes = record { script_name = s; document_name = d; script = script; named = named_script held script there; within = within; deletes = deletes }

  -- the document could not be read whole
  pub early_document : (holds : Option Held) (rose : Type 0) (r : Refusal) (steps : List (List ℕ)) → IfSome holds (λ held. AsksDeletion held words steps)
      → IsFileRefusal holds d document_limit LongDocument rose r → IsEarlyRefusal holds words rose r
  early_document holds rose r steps asked (inl (no_read, inl rises)) = subst (IsEarlyRefusal holds words rose) (sym no_read) (inl (rises, is_some words (run s d) is))
  early_document None rose r steps asked (inl (no_read, inr lacks)) = absurd lacks
  early_document (Some held) rose r steps asked (inl (no_read, inr lacks)) = subst (IsEarlyRefusal (Some held) words rose) (sym no_read) (inr (no_document asked is lacks))
  early_document None rose r steps asked (inr (inl (long, how))) = subst (IsEarlyRefusal None words rose) (sym long) tt
  early_document (Some held) rose r steps asked (inr (inl (long, (bytes, there, more)))) =
      subst (IsEarlyRefusal (Some held) words rose) (sym long) (long_document asked (document_there held bytes there) more)
  early_document holds rose r steps asked (inr (inr no_memory)) = subst (IsEarlyRefusal holds words rose) (sym no_memory) tt

  -- the document spells no forest
  pub early_forest : (holds : Option Held) (rose : Type 0) (r : Refusal) (steps : List (List ℕ)) (document : List ℕ) → IfSome holds (λ held. AsksDeletion held words steps)
      → IfSome holds (λ held. file held d ≡ Some document) → length document ≤ document_limit
      → (r ≡ NoMemory) ⊎ IsNoForest document r → IsEarlyRefusal holds words rose r
  early_forest holds rose r steps document asked there within (inl no_memory) = subst (IsEarlyRefusal holds words rose) (sym no_memory) tt
  early_forest None rose r steps document asked there within (inr (place, none, is)) = subst (IsEarlyRefusal None words rose) (sym is) tt
  early_forest (Some held) rose r steps document asked there within (inr (place, none, is)) =
      subst (IsEarlyRefusal (Some held) words rose) (sym is) (no_forest asked (document_there held document there) within none)

  -- nothing is refused
  pub prepared : (holds : Option Held) (names : List (List ℕ)) (path : List ℕ) (document output : List ℕ) (v w : Plain) → IfSome holds (λ held. AsksDeletion held words (map (name_text names) path))
      → IfSome holds (λ held. file held d ≡ Some document) → length document ≤ document_limit → Spells names document v → Derives [] standard [] v (delete_on path) w → output ≡ text names w ++ 10 ∷ []
      → IsOutput holds words output
  prepared None names path document output v w asked there within spelled derived is_output = tt
  prepared (Some held) names path document output v w asked there within spelled derived is_output =
      subst (λ (o : List ℕ). IsOutput (Some held) words o) (sym is_output) ([], done path asked (document_there held document there) within spelled derived)

-- the path is the same over a table with more names behind
pub steps_stay : (script : List ℕ) (names more : List (List ℕ)) (path : List ℕ) → Within names path → DeletesPath script (map (name_text names) path) → DeletesPath script (map (name_text (names ++ more)) path)
steps_stay script names more path known deletes =
    subst (DeletesPath script) (sym (path-more names more path known)) deletes

-- a fault that rose in a later part rose in the whole
pub refusal_later : (holds holds' : Option Held) (name : List ℕ) (limit : ℕ) (long : Refusal) (rose rose' : Type 0) (r : Refusal) → holds' ≡ holds → (rose → rose') → IsFileRefusal holds' name limit long rose r → IsFileRefusal holds name limit long rose' r
refusal_later holds holds' name limit long rose rose' r same later refused = subst (λ h. IsFileRefusal h name limit long rose' r) same (by refused)
  where
    by : IsFileRefusal holds' name limit long rose r → IsFileRefusal holds' name limit long rose' r
    by (inl (no_read, inl rises)) = inl (no_read, inl (later rises))
    by (inl (no_read, inr lacks)) = inl (no_read, inr lacks)
    by (inr other) = inr other
