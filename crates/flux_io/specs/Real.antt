-- What the folder and the sink over the system show.
use Rattle.std.specs.Prelude.{ℕ, Bool, List, Option, is_some, option_and_then}
use Rattle.flux_io.specs.declared.real.RealFolder.{RealFolder}
use Rattle.flux_io.specs.declared.real.RealSink.{RealSink}

-- a file was begun, and is the one that is read
abbrev pub has_file : {R F D : Type 0} → RealFolder R F D → Bool
has_file folder = is_some folder.file

-- how many errors the system gave
abbrev pub faults_of : {R F D : Type 0} → RealFolder R F D → ℕ
faults_of folder = folder.faults

-- what is left of the file that is read, where the file tells
abbrev pub remaining_of : {R F D : Type 0} →
    (F → Option (List ℕ)) → RealFolder R F D → Option (List ℕ)
remaining_of remaining folder = option_and_then remaining folder.file

-- where the bytes go
abbrev pub writer_of : {W : Type 0} → RealSink W → W
writer_of sink = sink.writer

-- how many errors the system gave
abbrev pub sink_faults_of : {W : Type 0} → RealSink W → ℕ
sink_faults_of sink = sink.faults
