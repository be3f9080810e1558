-- What the top call promises of its status, its output and its line.
use Rattle.std.specs.Prelude.{◌≡◌, ◌⊎◌, ◌<◌, ℕ, List, [], ◌∷◌, ◌++◌, length, map, take, Option, Some, IsSome, IfSome}
use Rattle.std.specs.Io.KnownBytes.{append_known}
use Rattle.flux_io.specs.Outside.{Held}
use Rattle.flux_trees.specs.Hedge.{Plain}
use Rattle.flux_doctext.specs.Text.{name_text}
use Rattle.flux_doctext.specs.Spells.{Spells}
use Rattle.flux_calculus.specs.Derives.{Derives}
use Rattle.flux_top.specs.Words.{run, form}
use Rattle.flux_top.specs.Paths.{standard, delete_on}
use Rattle.flux_report.specs.declared.line.ScriptFault.{ScriptFault}
use Rattle.flux_report.specs.Lines.{script_text, IsShown}
use Rattle.flux_top.specs.Lines.{line_of}
use Rattle.flux_top.specs.Answer.{NamesDocument, AsksDeletion, Answer, Lacking}
use Rattle.flux_top.specs.declared.status.Status.{Status}
use Rattle.flux_top.specs.declared.status.Status.TheVariants.{Done, Script, Usage, DocText, ReadFault, WriteFault, Memory}
use Rattle.flux_top.specs.declared.refusal.Refusal.TheVariants.{WrongWords, OtherScript, LongDocument, NoForest, NoRead, NoWrite}

-- the answer has this status
abbrev pub Answers : Held → List (List ℕ) → Status → Type 0
Answers held words status =
    (output : List ℕ) × (line : List ℕ) × Answer held words status output line

-- the status is that of the answer, or a fault of the outside, or want of memory
abbrev pub IsStatus : Held → List (List ℕ) → (read_rose write_rose : Type 0) → Status → Type 0
IsStatus held words read_rose write_rose Done = Answers held words Done
IsStatus held words read_rose write_rose Script = Answers held words Script
IsStatus held words read_rose write_rose Usage = Answers held words Usage
IsStatus held words read_rose write_rose DocText = Answers held words DocText
IsStatus held words read_rose write_rose ReadFault =
    (read_rose × IsSome (form words)) ⊎ Lacking held words
IsStatus held words read_rose write_rose WriteFault = write_rose × Answers held words Done
IsStatus held words read_rose write_rose Memory = Unit {0}

-- a run that has something to write, and whose files and output don't fail, is done
abbrev pub IsComplete : Held → List (List ℕ) → (read_rose write_rose : Type 0) → Status → Type 0
IsComplete held words read_rose write_rose status =
    Answers held words Done → ¬ read_rose → ¬ write_rose → (status ≡ Done) ⊎ (status ≡ Memory)

-- a proper prefix of the bytes was appended
abbrev pub AppendsPart : Option (List ℕ) → Option (List ℕ) → List ℕ → Type 0
AppendsPart old new bytes =
    (n : ℕ) × (n < length bytes) × (new ≡ append_known old (take n bytes))

-- these are the bytes of the answer, where the folder tells what it holds
abbrev pub IsOutput : Option Held → List (List ℕ) → List ℕ → Type 0
IsOutput holds words output = IfSome holds (λ held.
    (line : List ℕ) × Answer held words Done output line)

-- the output is a text and a newline, and the text spells the forest that the rules derive from the
-- path that the script deletes, on the forest that the document spells
pub record IsTextOfResult (held : Held) (words : List (List ℕ)) (output : List ℕ) : Type 0 where
  pub names : List (List ℕ)
  pub path : List ℕ
  pub document : List ℕ
  pub before : Plain
  pub after : Plain
  pub text : List ℕ
  pub asked : AsksDeletion held words (map (name_text names) path)
  pub named : NamesDocument held words document
  pub read : Spells names document before
  pub derived : Derives [] standard [] before (delete_on path) after
  pub output_is : output ≡ text ++ 10 ∷ []
  pub spells : Spells names text after

-- such bytes were appended to the output, where the words ask for a run
abbrev pub ReadsBack : Option Held → List (List ℕ) → (old new : Option (List ℕ)) → Type 0
ReadsBack holds words old new = IfSome holds (λ held.
    (script document : List ℕ) → form words ≡ Some (run script document) →
    (output : List ℕ) × IsTextOfResult held words output × (new ≡ append_known old output))

-- what a run with that status did to the output
abbrev pub Writes : (List ℕ → Type 0) → (old new : Option (List ℕ)) → Status → Type 0
Writes Is old new Done = (output : List ℕ) × Is output × (new ≡ append_known old output)
Writes Is old new WriteFault = (output : List ℕ) × Is output × AppendsPart old new output
Writes Is old new Memory =
    (new ≡ old) ⊎ ((output : List ℕ) × Is output × AppendsPart old new output)
Writes Is old new Script = new ≡ old
Writes Is old new Usage = new ≡ old
Writes Is old new DocText = new ≡ old
Writes Is old new ReadFault = new ≡ old

-- a line that tells a fault of some script, or that it isn't built yet
abbrev pub IsScriptLine : List ℕ → Type 0
IsScriptLine line =
    ((bytes : List ℕ) × (fault : ScriptFault) × IsShown bytes fault
    × (line ≡ script_text bytes fault))
    ⊎ (line ≡ line_of OtherScript)

-- a line that tells what is wrong with some document
abbrev pub IsDocumentLine : List ℕ → Type 0
IsDocumentLine text =
    (text ≡ line_of LongDocument)
    ⊎ ((line : ℕ) × (column : ℕ) × (text ≡ line_of (NoForest line column)))

-- a line of that status, which is that of the answer where the folder tells what it holds
abbrev pub IsLineOf : Option Held → List (List ℕ) → Status → List ℕ → Type 0
IsLineOf holds words Usage line = line ≡ line_of WrongWords
IsLineOf holds words Script line =
    IsScriptLine line × IfSome holds (λ held. Answer held words Script [] line)
IsLineOf holds words DocText line =
    IsDocumentLine line × IfSome holds (λ held. Answer held words DocText [] line)
IsLineOf holds words ReadFault line = line ≡ line_of NoRead
IsLineOf holds words WriteFault line = line ≡ line_of NoWrite
IsLineOf holds words Done line = ⊥
IsLineOf holds words Memory line = ⊥

-- the line was appended, or a proper prefix of it where the count rose
abbrev pub Appends : (old new : Option (List ℕ)) → (rose : Type 0) → List ℕ → Type 0
Appends old new rose line =
    (new ≡ append_known old line) ⊎ (rose × AppendsPart old new line)

-- such a line was appended
abbrev pub ShowsLine : Option Held → List (List ℕ) → (old new : Option (List ℕ)) →
    (rose : Type 0) → Status → Type 0
ShowsLine holds words old new rose status =
    (line : List ℕ) × IsLineOf holds words status line × Appends old new rose line

-- what a run with that status did to the error output
abbrev pub Shows : Option Held → List (List ℕ) → (old new : Option (List ℕ)) →
    (rose : Type 0) → Status → Type 0
Shows holds words old new rose Done = new ≡ old
Shows holds words old new rose Script = ShowsLine holds words old new rose Script
Shows holds words old new rose Usage = ShowsLine holds words old new rose Usage
Shows holds words old new rose DocText = ShowsLine holds words old new rose DocText
Shows holds words old new rose ReadFault = ShowsLine holds words old new rose ReadFault
Shows holds words old new rose WriteFault = ShowsLine holds words old new rose WriteFault
Shows holds words old new rose Memory = Unit {0}
