-- What an editor holds, and what each of its calls makes of it: a document in which a focus stands
-- under frames, with what a notation keeps on its nodes and beside it.
use Rattle.std.specs.Prelude.{◌≡◌, ◌⊎◌, ℕ, suc, List, [], ◌∷◌, ◌++◌, take}
use Rattle.flux_trees.specs.Hedge.{Hedge, Plain, nil, elem, join, first, others}
use Rattle.flux_trees.specs.Frame.{Frame, Down, Before, After, Each, plug}
use Rattle.flux_calculus.specs.Notation.{Notation, insertion, deletion}

-- a document at a moment, with the marks beside it
pub record Moment (N M : Type 0) : Type 0 where
  pub document : Hedge N
  pub marks : M

-- the frames around the focus, the innermost first, the focus, and the marks now; and the moments
-- since the last commit but for this one, each before a change
pub record State (N M : Type 0) : Type 0 where
  pub frames : List (Frame N)
  pub focus : Hedge N
  pub marks : M
  pub earlier : List (Moment N M)

module _ {N M : Type 0} where
  -- the document of now has the focus under its frames
  abbrev pub now : State N M → Moment N M
  now s = record { document = plug s.frames s.focus; marks = s.marks }

  -- the moments since the last commit
  abbrev pub past : State N M → List (Moment N M)
  past s = s.earlier ++ now s ∷ []

  -- another focus of the same document
  abbrev pub moved : List (Frame N) → Hedge N → State N M → State N M
  moved fs v s = record { frames = fs; focus = v; marks = s.marks; earlier = s.earlier }

  -- another forest in the focus' place: a change
  abbrev pub changed : Hedge N → M → State N M → State N M
  changed v m s = record { frames = s.frames; focus = v; marks = m; earlier = past s }

  -- whether the innermost frame is that of an element's content, of one side, of one tree of many
  abbrev pub IsDown : State N M → Type 0
  IsDown s = (n : N) × (a : ℕ) × (fs : List (Frame N)) × (s.frames ≡ Down n a ∷ fs)

  abbrev pub IsBeside : State N M → Type 0
  IsBeside s =
      (w : Hedge N) × (fs : List (Frame N))
      × ((s.frames ≡ Before w ∷ fs) ⊎ (s.frames ≡ After w ∷ fs))

  abbrev pub IsEach : State N M → Type 0
  IsEach s =
      (done : Hedge N) × (rest : Hedge N) × (fs : List (Frame N))
      × (s.frames ≡ Each done rest ∷ fs)

  -- into one element, and out of it
  abbrev pub WentDown : State N M → State N M → Type 0
  WentDown old new =
      (n : N) × (a : ℕ) × (w : Hedge N) × (old.focus ≡ elem n a w nil)
      × (new ≡ moved (Down n a ∷ old.frames) w old)

  abbrev pub CameUp : State N M → State N M → Type 0
  CameUp old new =
      (n : N) × (a : ℕ) × (fs : List (Frame N)) × (old.frames ≡ Down n a ∷ fs)
      × (new ≡ moved fs (elem n a old.focus nil) old)

  -- to the empty run before the focus, or behind it, and back to both together
  abbrev pub WentLeft : State N M → State N M → Type 0
  WentLeft old new = new ≡ moved (Before old.focus ∷ old.frames) nil old

  abbrev pub WentRight : State N M → State N M → Type 0
  WentRight old new = new ≡ moved (After old.focus ∷ old.frames) nil old

  abbrev pub Widened : State N M → State N M → Type 0
  Widened old new =
      (w : Hedge N) × (fs : List (Frame N))
      × (((old.frames ≡ Before w ∷ fs) × (new ≡ moved fs (join old.focus w) old))
      ⊎ ((old.frames ≡ After w ∷ fs) × (new ≡ moved fs (join w old.focus) old)))

  -- to the first tree of the focus; from a tree that is done to the next one; from the last one
  -- back to all of them
  abbrev pub WentToFirst : State N M → State N M → Type 0
  WentToFirst old new =
      (old.focus ≡ nil → ⊥)
      × (new ≡ moved (Each nil (others old.focus) ∷ old.frames) (first old.focus) old)

  abbrev pub WentToNext : State N M → State N M → Type 0
  WentToNext old new =
      (done : Hedge N) × (rest : Hedge N) × (fs : List (Frame N))
      × (old.frames ≡ Each done rest ∷ fs)
      × (rest ≡ nil → ⊥)
      × (new ≡ moved (Each (join done old.focus) (others rest) ∷ fs) (first rest) old)

  abbrev pub IsAtLast : State N M → Type 0
  IsAtLast s = (done : Hedge N) × (fs : List (Frame N)) × (s.frames ≡ Each done nil ∷ fs)

  abbrev pub Gathered : State N M → State N M → Type 0
  Gathered old new =
      (done : Hedge N) × (fs : List (Frame N)) × (old.frames ≡ Each done nil ∷ fs)
      × (new ≡ moved fs (join done old.focus) old)

  -- trees where none is; no tree is no change
  abbrev pub after_insert : Notation N M → Plain → State N M → State N M
  after_insert notation nil s = s
  after_insert notation w s =
      changed (insertion notation s.frames w s.marks).0 (insertion notation s.frames w s.marks).1 s

  -- nothing in the focus' place; where nothing is, it is no change
  abbrev pub deleted_from : Notation N M → Hedge N → State N M → State N M
  deleted_from notation nil s = s
  deleted_from notation v s = changed nil (deletion notation s.frames v s.marks) s

  abbrev pub after_delete : Notation N M → State N M → State N M
  after_delete notation s = deleted_from notation s.focus s

  -- another label on one element: a change, whatever the label
  abbrev pub Renamed : Notation N M → ℕ → State N M → State N M → Type 0
  Renamed notation b old new =
      (n : N) × (a : ℕ) × (w : Hedge N) × (old.focus ≡ elem n a w nil)
      × (new ≡ changed (elem n b w nil) (notation.relabelled n a b old.marks) old)

  -- the moments up to one after so many changes; the focus is the whole document of that one
  abbrev pub TakenBack : ℕ → State N M → State N M → Type 0
  TakenBack changes old new =
      (new.frames ≡ []) × (past new ≡ take (suc changes) (past old))

  -- the document stays, and nothing before it is kept
  abbrev pub Committed : Notation N M → State N M → State N M → Type 0
  Committed notation old new =
      new ≡ record {
        frames = old.frames;
        focus = old.focus;
        marks = notation.committed old.marks;
        earlier = [];
      }
