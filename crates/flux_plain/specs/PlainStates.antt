-- What a plain editor holds.
use Rattle.std.specs.Prelude.{List, [], ◌∷◌}
use Rattle.flux_trees.specs.Hedge.{Plain}
use Rattle.flux_plain.specs.declared.earlier.Earlier.{Earlier}
use Rattle.flux_plain.specs.declared.earlier.Earlier.TheVariants.{Whole, Label}
use Rattle.flux_plain.specs.declared.plain.PlainEditor.{PlainEditor}
use Rattle.flux_plain.specs.Moves.{PlainMoment, PlainState, state, whole, relabelled}

-- the document before a change, by the one after it
abbrev pub document_before : Earlier → Plain → Plain
document_before (Whole d) h = whole d
document_before (Label place b) h = relabelled place b h

-- the document before all changes
abbrev pub document_was : List Earlier → Plain → Plain
document_was [] h = h
document_was (e ∷ es) h = document_before e (document_was es h)

-- the documents before each change, and then the one of now
abbrev pub documents : List Earlier → Plain → List Plain
documents [] h = h ∷ []
documents (e ∷ es) h = document_was (e ∷ es) h ∷ documents es h

-- the moments before each change
abbrev pub moments : List Earlier → Plain → List PlainMoment
moments [] h = []
moments (e ∷ es) h = record { document = document_was (e ∷ es) h; marks = tt } ∷ moments es h

-- the document with its focus, and those before each change since the last commit
abbrev pub state_of : PlainEditor → PlainState
state_of e = state (moments e.earlier.items (whole e.current)) e.current
