-- What the parts of a run that come before the write promise.
use Rattle.std.specs.Prelude.{◌≡◌, ◌⊎◌, ◌<◌, ℕ, List, [], length, Option, Some, None, IsSome, IfSome, IsSomeAnd}
use Rattle.flux_io.specs.Outside.{Held, file, Lacks}
use Rattle.flux_top.specs.Words.{Command, form}
use Rattle.flux_top.specs.Lines.{status_of, line_of}
use Rattle.flux_grammar.specs.declared.tree.Script.{Script as Tree}
use Rattle.flux_report.specs.declared.line.ScriptFault.{ScriptFault}
use Rattle.flux_report.specs.Lines.{script_text}
use Rattle.flux_report.specs.Positions.{line_of_place, column_of_place}
use Rattle.flux_doctext.specs.Documents.{IsNoDocument}
use Rattle.flux_grammar.specs.NormalFaults.{HasNoFault}
use Rattle.flux_top.specs.Script.{IsScriptOf, IsScriptFault, DeletesNone}
use Rattle.flux_top.specs.Answer.{Answer, Lacking}
use Rattle.flux_top.specs.Clauses.{IsScriptLine}
use Rattle.flux_top.specs.declared.refusal.Refusal.{Refusal}
use Rattle.flux_top.specs.declared.refusal.Refusal.TheVariants.{WrongWords, LongScript, FaultyScript, OtherScript, LongDocument, NoForest, NoRead, NoWrite, NoMemory}

-- a file could not be read, or is longer than its limit, or there was no memory
abbrev pub IsFileRefusal : Option Held → List ℕ → (limit : ℕ) → (too_long : Refusal) →
    (rose : Type 0) → Refusal → Type 0
IsFileRefusal holds name limit too_long rose refusal =
    ((refusal ≡ NoRead) × (rose ⊎ Lacks holds name))
    ⊎ ((refusal ≡ too_long) × IfSome holds (λ held.
    (bytes : List ℕ) × (file held name ≡ Some bytes) × (limit < length bytes)))
    ⊎ (refusal ≡ NoMemory)

-- the answer is this refusal, where the folder tells what it holds
abbrev pub IsRefused : Option Held → List (List ℕ) → Refusal → Type 0
IsRefused holds words refusal =
    IfSome holds (λ held. Answer held words (status_of refusal) [] (line_of refusal))

-- the line of the refusal is this one, which tells a fault of a script; or there was no memory
abbrev pub Tells : Refusal → List ℕ → Type 0
Tells (FaultyScript found) line = found.items ≡ line
Tells NoMemory line = Unit {0}
Tells _ line = ⊥

-- the script has a fault, or there was no memory
abbrev pub IsScriptRefusal : List ℕ → Refusal → Type 0
IsScriptRefusal bytes (FaultyScript line) =
    (fault : ScriptFault) × IsScriptFault bytes fault × (line.items ≡ script_text bytes fault)
IsScriptRefusal bytes NoMemory = Unit {0}
IsScriptRefusal bytes _ = ⊥

-- it has no fault, and deletes no path, or there was no memory
abbrev pub IsOtherRefusal : List ℕ → Refusal → Type 0
IsOtherRefusal bytes OtherScript =
    (tree : Tree) × (texts : List (List ℕ)) × IsScriptOf bytes tree texts × HasNoFault tree
    × DeletesNone tree
IsOtherRefusal bytes NoMemory = Unit {0}
IsOtherRefusal bytes _ = ⊥

-- a script is refused before its document is read
abbrev pub IsDeletionRefusal : List ℕ → Refusal → Type 0
IsDeletionRefusal bytes refusal = IsScriptRefusal bytes refusal ⊎ IsOtherRefusal bytes refusal

-- the document spells no forest, and the refusal has the position where its longest viable prefix
-- ends
abbrev pub IsNoForest : List ℕ → Refusal → Type 0
IsNoForest document refusal =
    (place : ℕ) × IsNoDocument document place
    × (refusal ≡ NoForest (line_of_place document place) (column_of_place document place))

-- a run is refused so before it writes anything
abbrev pub IsEarlyRefusal : Option Held → List (List ℕ) → (rose : Type 0) → Refusal → Type 0
IsEarlyRefusal holds words rose WrongWords = form words ≡ None
IsEarlyRefusal holds words rose LongScript = IsRefused holds words LongScript
IsEarlyRefusal holds words rose (FaultyScript line) =
    IsScriptLine line.items × IsRefused holds words (FaultyScript line)
IsEarlyRefusal holds words rose OtherScript = IsRefused holds words OtherScript
IsEarlyRefusal holds words rose LongDocument = IsRefused holds words LongDocument
IsEarlyRefusal holds words rose (NoForest line column) =
    IsRefused holds words (NoForest line column)
IsEarlyRefusal holds words rose NoRead =
    (rose × IsSome (form words)) ⊎ IsSomeAnd holds (λ held. Lacking held words)
IsEarlyRefusal holds words rose NoWrite = ⊥
IsEarlyRefusal holds words rose NoMemory = Unit {0}

-- it holds of all words that ask for the command
abbrev pub WhereAsked : Command → (List (List ℕ) → Type 0) → Type 0
WhereAsked command Holds = (words : List (List ℕ)) → form words ≡ Some command → Holds words
