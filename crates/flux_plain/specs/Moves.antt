-- How a focus moves in a plain document, in the words of editors.
use Rattle.std.specs.Prelude.{◌≡◌, ℕ, zero, suc, ◌-◌, nat_lt, List, [], ◌∷◌, if◌then◌else◌}
use Rattle.flux_trees.specs.Hedge.{Plain, nil, elem, leaf, size}
use Rattle.flux_trees.specs.Frame.{framed, plug}
use Rattle.flux_editor.specs.Editing.{State, Moment}
use Rattle.flux_plain.specs.Focused.{PlainFrame, Focused}

abbrev pub PlainMoment : Type 0
PlainMoment = Moment (Unit {0}) (Unit {0})

abbrev pub PlainState : Type 0
PlainState = State (Unit {0}) (Unit {0})

-- what an editor holds, of its document and the moments before
abbrev pub state : List PlainMoment → Focused → PlainState
state earlier d = record { frames = d.frames; focus = d.focus; marks = tt; earlier = earlier }

-- it is so, and it became so, whatever was before
abbrev pub Is : (PlainState → Type 0) → Focused → Type 0
Is P d = P (state [] d)

abbrev pub Becomes : (PlainState → PlainState → Type 0) → Focused → Focused → Type 0
Becomes R old new = (earlier : List PlainMoment) → R (state earlier old) (state earlier new)

-- the document around the focus and with it
abbrev pub whole : Focused → Plain
whole d = plug d.frames d.focus

-- all of a document in the focus
abbrev pub all_of : Plain → Focused
all_of h = record { frames = []; focus = h }

-- other trees in the focus
abbrev pub with_focus : Plain → Focused → Focused
with_focus w d = record { frames = d.frames; focus = w }

-- the one element that the focus is has another label
abbrev pub Relabelled : ℕ → Focused → Focused → Type 0
Relabelled b old new =
    (a : ℕ) × (w : Plain) × (old.focus ≡ elem tt a w nil)
    × (new ≡ with_focus (elem tt b w nil) old)

-- there is a frame
abbrev pub HasFrame : Focused → Type 0
HasFrame d = (f : PlainFrame) × (fs : List PlainFrame) × (d.frames ≡ f ∷ fs)

-- the innermost frame is gone, whichever it was
abbrev pub SteppedBack : Focused → Focused → Type 0
SteppedBack old new =
    (f : PlainFrame) × (fs : List PlainFrame) × (old.frames ≡ f ∷ fs)
    × (new ≡ record { frames = fs; focus = framed f old.focus })

-- the node at a place, counted from 0 in document order, has the label b, if it is an element
abbrev pub relabelled : ℕ → ℕ → Plain → Plain
relabelled i b nil = nil
relabelled zero b (elem m a c r) = elem m b c r
relabelled (suc i) b (elem m a c r) =
    if nat_lt i (size c) then elem m a (relabelled i b c) r
    else elem m a c (relabelled (i - size c) b r)
relabelled zero b (leaf m x r) = leaf m x r
relabelled (suc i) b (leaf m x r) = leaf m x (relabelled i b r)
