-- What the states of the reader stand for, and what its steps do.
use Rattle.std.specs.Prelude.{◌≡◌, ℕ, ◌+◌, ◌<◌, ◌≤◌, Bool, true, false, List, ◌++◌, length, take, Option, Some, None, string_bytes}
use Rattle.std.specs.List.{AllPass}
use Rattle.flux_atom.specs.Names.{continues_name, name_text, IsName, IsTable}
use Rattle.flux_atom.specs.TextSteps.{TextRead, no_text, read_text}
use Rattle.flux_trees.specs.Draft.{depth}
use Rattle.flux_doctext.specs.declared.reader.State.{State}
use Rattle.flux_doctext.specs.declared.reader.State.TheVariants.{Content, Tree, Name, Label, Opened, Closed, Text, Number, Behind}
use Rattle.flux_doctext.specs.Reading.{Shape, content, next, name, label, opened, closed, string, number, behind, Event, Step, PlainDraft, draft_after, names_after, end_fits}

-- where the reader is, its label read through the table
abbrev pub shape_of : List (List ℕ) → State → Shape
shape_of names Content = content
shape_of names Tree = next
shape_of names (Name text) = name (string_bytes text)
shape_of names (Label a) = label (name_text names a)
shape_of names Opened = opened
shape_of names Closed = closed
shape_of names (Text r) = string r
shape_of names (Number at) = number at
shape_of names Behind = behind

-- its token is the beginning of one
abbrev pub IsSound : List (List ℕ) → State → Type 0
IsSound names (Name text) = IsName (string_bytes text)
IsSound names (Label a) = a < length names
IsSound names (Text r) = (items : List ℕ) × (read_text no_text items ≡ Some r)
IsSound names _ = Unit {0}

-- the table has more names behind those that it had, at most so many
pub record HasGrown (old new : List (List ℕ)) (n : ℕ) : Type 0 where
  pub more : (more : List (List ℕ)) × (new ≡ old ++ more)
  pub room : length new ≤ length old + n
  pub table : IsTable old → IsTable new

-- the step is taken: the reader is where it leads, and the table and the forest are as its events
-- make them
pub record IsTaken (old : List (List ℕ)) (step : Step) (d : PlainDraft)
    (new : List (List ℕ)) (grown : PlainDraft) (state : State) : Type 0 where
  pub events : List Event
  pub fits : step ≡ Some (shape_of new state, events)
  pub learns : new ≡ names_after events old
  pub draws : grown ≡ draft_after new events d
  pub sound : IsSound new state

-- the step is taken, or there is none
abbrev pub Follows : List (List ℕ) → Step → PlainDraft →
    List (List ℕ) → PlainDraft → Option State → Type 0
Follows old step d new grown None = step ≡ None
Follows old step d new grown (Some state) = IsTaken old step d new grown state

-- the text may end, where no element is open, and the forest is as the end makes it
pub record IsEnded (end : Option (List Event)) (d new : PlainDraft) : Type 0 where
  pub events : List Event
  pub fits : end ≡ Some events
  pub whole : depth d ≡ 0
  pub draws : (names : List (List ℕ)) → new ≡ draft_after names events d

-- whether the text may end
abbrev pub Ends : Option (List Event) → PlainDraft → PlainDraft → Bool → Type 0
Ends end d new true = IsEnded end d new
Ends end d new false = end_fits end (depth d) ≡ false

-- the name is longer by the bytes, which go on with it
abbrev pub IsLonger : List ℕ → List ℕ → State → Type 0
IsLonger text run (Name longer) = AllPass continues_name run × (string_bytes longer ≡ text ++ run)
IsLonger text run _ = ⊥

-- a run of bytes is passed: a name or a string goes on behind them, and elsewhere there are none
abbrev pub Passes : State → List ℕ → ℕ → State → Type 0
Passes (Name text) bytes n new =
    (n ≤ length bytes) × IsLonger (string_bytes text) (take n bytes) new
Passes (Text r) bytes n new =
    (n ≤ length bytes)
    × (s : TextRead) × (read_text r (take n bytes) ≡ Some s) × (new ≡ Text s)
Passes state bytes n new = (n ≡ 0) × (new ≡ state)
