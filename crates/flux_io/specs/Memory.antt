-- What the folder and the sink in memory mean.
use Rattle.std.specs.Prelude.{◌≡◌, ◌⊎◌, ◌≤◌, ◌^◌, ◌-◌, ◌+◌, ℕ, min, List, [], drop, Contains, Option, Some, None, unwrap_or}
use Rattle.flux_io.specs.declared.memory.MemFolder.{MemFolder}
use Rattle.flux_io.specs.declared.memory.MemSink.{MemSink}
use Rattle.flux_io.specs.declared.memory.Place.{Place}
use Rattle.flux_io.specs.declared.memory.Place.TheVariants.{Start, Within, Lost}
use Rattle.flux_io.specs.Files.{Files, listed, bytes_at}
use Rattle.flux_io.specs.Outside.{Held}

-- what is left at a place, where that is told
abbrev pub left_at : Files → Place → Option (List ℕ)
left_at files Start = Some []
left_at files (Within index at) = Some (drop at (bytes_at files index))
left_at files Lost = None

-- ---- counts

-- one more, as a count of 64 bits has it, which stays at its last value
abbrev pub one_more : ℕ → ℕ
one_more count = min (count + 1) (2 ^ 64 - 1)

-- ---- a folder

-- the names and bytes that it was made of
abbrev pub files_of : MemFolder → List (List ℕ × List ℕ)
files_of folder = listed folder.files.items

-- the numbers of the calls that fail
abbrev pub fails_of : MemFolder → List ℕ
fails_of folder = folder.fails.items

-- how many calls there were
abbrev pub calls_of : MemFolder → ℕ
calls_of folder = folder.calls

-- how many of them failed by their number
abbrev pub faults_of : MemFolder → ℕ
faults_of folder = folder.faults

-- what is left of the current bytes, where that is told
abbrev pub left_of : MemFolder → Option (List ℕ)
left_of folder = left_at folder.files.items folder.place

-- the bytes that its next reads give, none where that isn't told
abbrev pub rest_of : MemFolder → List ℕ
rest_of folder = unwrap_or (left_of folder) []

-- these files, and no others
abbrev pub held_of : MemFolder → Held
held_of folder = record { map = files_of folder; rest = None }

-- its next call fails by its number
abbrev pub FailsNext : MemFolder → Type 0
FailsNext folder = Contains (fails_of folder) (one_more (calls_of folder))

-- a call counts itself, and a fault exactly where its number is one of those that fail; all else
-- stays
pub record IsCall (old new : MemFolder) : Type 0 where
  pub files : files_of new ≡ files_of old
  pub fails : fails_of new ≡ fails_of old
  pub calls : calls_of new ≡ one_more (calls_of old)
  pub rose : FailsNext old → faults_of new ≡ one_more (faults_of old)
  pub stayed : FailsNext old ⊎ (faults_of new ≡ faults_of old)

-- ---- a sink

-- the bytes that it holds
abbrev pub bytes_of : MemSink → List ℕ
bytes_of sink = sink.bytes.items

-- how many bytes it takes, where there is an end
abbrev pub cap_of : MemSink → Option ℕ
cap_of sink = sink.cap

-- how many writes failed
abbrev pub sink_faults_of : MemSink → ℕ
sink_faults_of sink = sink.faults

-- so many bytes are all that a sink of that cap takes
abbrev pub AtCap : Option ℕ → ℕ → Type 0
AtCap None held = ⊥
AtCap (Some cap) held = cap ≤ held

-- how many of the bytes asked a sink of that cap takes
abbrev pub taken_of : Option ℕ → ℕ → ℕ → ℕ
taken_of None held asked = asked
taken_of (Some cap) held asked = min asked (cap - held)
