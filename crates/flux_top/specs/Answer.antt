-- What the program answers, where the folder tells what it holds.
use Rattle.std.specs.Prelude.{◌≡◌, ◌<◌, ◌≤◌, ℕ, List, [], ◌∷◌, ◌++◌, length, map, Some, None}
use Rattle.flux_io.specs.Outside.{Held, file}
use Rattle.flux_trees.specs.Hedge.{Plain}
use Rattle.flux_doctext.specs.Text.{text, name_text}
use Rattle.flux_doctext.specs.Spells.{Spells}
use Rattle.flux_doctext.specs.Documents.{IsNoDocument}
use Rattle.flux_calculus.specs.Derives.{Derives}
use Rattle.flux_top.specs.Paths.{standard, delete_on}
use Rattle.flux_top.specs.Words.{Command, run, core, script_of, form}
use Rattle.flux_top.specs.Lines.{status_of, line_of}
use Rattle.flux_top.specs.Script.{script_limit, IsScriptOf, IsScriptFault, IsNormalScript, DeletesNone, DeletesPath}
use Rattle.flux_calculus.specs.Core.{Normal}
use Rattle.flux_grammar.specs.declared.tree.Script.{Script as Tree}
use Rattle.flux_grammar.specs.NormalFaults.{HasNoFault}
use Rattle.flux_report.specs.declared.line.ScriptFault.{ScriptFault}
use Rattle.flux_report.specs.CoreText.{core_text}
use Rattle.flux_report.specs.Lines.{script_text}
use Rattle.flux_report.specs.Positions.{line_of_place, column_of_place}
use Rattle.flux_top.specs.declared.status.Status.{Status}
use Rattle.flux_top.specs.declared.status.Status.TheVariants.{Done, Script, DocText}
use Rattle.flux_top.specs.declared.refusal.Refusal.TheVariants.{WrongWords, OtherScript, LongDocument, NoForest}

-- the most bytes of a document
abbrev pub document_limit : ℕ
document_limit = 33554432

-- the words are this command, whose script is there, with these bytes
pub record NamesScript (held : Held) (words : List (List ℕ)) (command : Command)
    (script : List ℕ) : Type 0 where
  pub form_is : form words ≡ Some command
  pub is_there : file held (script_of command) ≡ Some script

-- the words name a document that is there, with these bytes
pub record NamesDocument (held : Held) (words : List (List ℕ)) (document : List ℕ) : Type 0 where
  pub script_name : List ℕ
  pub document_name : List ℕ
  pub form_is : form words ≡ Some (run script_name document_name)
  pub is_there : file held document_name ≡ Some document

-- the words ask for a run of a script within its limit that deletes the path of these steps
pub record AsksDeletion (held : Held) (words : List (List ℕ)) (steps : List (List ℕ)) : Type 0 where
  pub script_name : List ℕ
  pub document_name : List ℕ
  pub script : List ℕ
  pub named : NamesScript held words (run script_name document_name) script
  pub within : length script ≤ script_limit
  pub deletes : DeletesPath script steps

-- the line of a document that spells no forest: where its longest viable prefix ends
abbrev pub no_forest_line : List ℕ → ℕ → List ℕ
no_forest_line document place =
    line_of (NoForest (line_of_place document place) (column_of_place document place))

-- Answer held words status output line: the status, the bytes of the output, the line of a refusal
pub data Answer (held : Held) (words : List (List ℕ)) : Status → List ℕ → List ℕ → Type 0 where
  -- the words are of no form
  usage : form words ≡ None →
      Answer held words (status_of WrongWords) [] (line_of WrongWords)
  -- the script has a fault
  faulty_script : {command : Command} {script : List ℕ} (fault : ScriptFault) →
      NamesScript held words command script → IsScriptFault script fault →
      Answer held words Script [] (script_text script fault)
  -- its normal form is asked for: the output is the text of it
  core_script : {script_name script : List ℕ} {tree : Tree} {texts : List (List ℕ)}
      {normal : Normal} →
      NamesScript held words (core script_name) script →
      IsNormalScript script tree texts normal →
      Answer held words Done (core_text texts normal) []
  -- it has no fault, and deletes no path
  other_script : {script_name document_name script : List ℕ} {tree : Tree}
      {texts : List (List ℕ)} →
      NamesScript held words (run script_name document_name) script →
      length script ≤ script_limit → IsScriptOf script tree texts → HasNoFault tree →
      DeletesNone tree →
      Answer held words (status_of OtherScript) [] (line_of OtherScript)
  -- the document is over its limit; it is within it, and spells no forest
  long_document : {steps : List (List ℕ)} {document : List ℕ} →
      AsksDeletion held words steps → NamesDocument held words document →
      document_limit < length document →
      Answer held words (status_of LongDocument) [] (line_of LongDocument)
  no_forest : {steps : List (List ℕ)} {document : List ℕ} {place : ℕ} →
      AsksDeletion held words steps → NamesDocument held words document →
      length document ≤ document_limit → IsNoDocument document place →
      Answer held words DocText [] (no_forest_line document place)
  -- else the output is the canonical text of the forest that is derived, and a newline
  done : {document : List ℕ} {names : List (List ℕ)} (path : List ℕ) {v w : Plain} →
      AsksDeletion held words (map (name_text names) path) → NamesDocument held words document →
      length document ≤ document_limit → Spells names document v →
      Derives [] standard [] v (delete_on path) w →
      Answer held words Done (text names w ++ 10 ∷ []) []

-- a file whose turn has come isn't there: the script, or the document of a script that is taken
pub data Lacking (held : Held) (words : List (List ℕ)) : Type 0 where
  no_script : {command : Command} →
      form words ≡ Some command → file held (script_of command) ≡ None → Lacking held words
  no_document : {steps : List (List ℕ)} {script_name document_name : List ℕ} →
      AsksDeletion held words steps → form words ≡ Some (run script_name document_name) →
      file held document_name ≡ None → Lacking held words
