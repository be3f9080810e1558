-- How a run ends, and the line that a refusal writes.
use Rattle.std.specs.Prelude.{ℕ, List, [], ◌∷◌, ◌++◌, codes}
use Rattle.std.specs.Fmt.{decimal}
use Rattle.flux_report.specs.declared.line.ScriptFault.TheVariants.{TooLong}
use Rattle.flux_report.specs.Lines.{script_text}
use Rattle.flux_top.specs.declared.status.Status.{Status}
use Rattle.flux_top.specs.declared.status.Status.TheVariants.{Done, Script, Usage, DocText, ReadFault, WriteFault, Memory}
use Rattle.flux_top.specs.declared.refusal.Refusal.{Refusal}
use Rattle.flux_top.specs.declared.refusal.Refusal.TheVariants.{WrongWords, LongScript, FaultyScript, OtherScript, LongDocument, NoForest, NoRead, NoWrite, NoMemory}

-- the number of a status, with which the program ends
abbrev pub number_of : Status → ℕ
number_of Done = 0
number_of Script = 1
number_of Usage = 2
number_of DocText = 3
number_of ReadFault = 6
number_of WriteFault = 7
number_of Memory = 8

-- the status of a refusal
abbrev pub status_of : Refusal → Status
status_of WrongWords = Usage
status_of LongScript = Script
status_of (FaultyScript line) = Script
status_of OtherScript = Script
status_of LongDocument = DocText
status_of (NoForest line column) = DocText
status_of NoRead = ReadFault
status_of NoWrite = WriteFault
status_of NoMemory = Memory

-- its line, with the newline that ends it
abbrev pub line_of : Refusal → List ℕ
line_of WrongWords =
    codes "usage: flux check SCRIPT | run [--depth N] SCRIPT DOC | edits [--depth N] SCRIPT DOC"
    ++ codes " | core SCRIPT | trial [--seed N] BOOKS" ++ 10 ∷ []
line_of LongScript = script_text [] TooLong
line_of (FaultyScript line) = line.items
line_of OtherScript = codes "script: not built yet" ++ 10 ∷ []
line_of LongDocument = codes "document: longer than 33554432 bytes" ++ 10 ∷ []
line_of (NoForest line column) =
    codes "document:"
    ++ (decimal line ++ (codes ":" ++ (decimal column ++ (codes ": no forest" ++ 10 ∷ []))))
line_of NoRead = codes "flux: read fault" ++ 10 ∷ []
line_of NoWrite = codes "flux: write fault" ++ 10 ∷ []
line_of NoMemory = codes "flux: out of memory" ++ 10 ∷ []
