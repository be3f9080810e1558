-- The words of the command line.
use Rattle.std.specs.Prelude.{ℕ, List, [], ◌∷◌, map, Option, Some, None, String, string_bytes, bytes_eq, codes, if◌then◌else◌}
use Rattle.std.specs.declared.alloc.Global.{Global}
use Rattle.flux_top.specs.declared.words.Words.{Words}
use Rattle.flux_top.specs.declared.words.Words.TheVariants.{Run, Core}

-- the words as texts
abbrev pub texts : List (String Global) → List (List ℕ)
texts words = map string_bytes words

-- what is asked for, by the names of files: the update of a document by a script; the text of a
-- script in the core language
pub data Command : Type 0 where
  run : (script document : List ℕ) → Command
  core : (script : List ℕ) → Command

-- the name of its script
abbrev pub script_of : Command → List ℕ
script_of (run script document) = script
script_of (core script) = script

-- the words are `run SCRIPT DOC` or `core SCRIPT`
abbrev pub form : List (List ℕ) → Option Command
form (command ∷ script ∷ []) =
    if bytes_eq command (codes "core") then Some (core script) else None
form (command ∷ script ∷ document ∷ []) =
    if bytes_eq command (codes "run") then Some (run script document) else None
form _ = None

-- the command that words were read as
abbrev pub command_of : Words → Command
command_of (Run script document) = run script.now document.now
command_of (Core script) = core script.now
