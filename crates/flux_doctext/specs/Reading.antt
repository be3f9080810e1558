-- A reader of documents, byte by byte. `Spells` is what it follows.
use Rattle.std.specs.Prelude.{ℕ, Bool, true, false, ◌==◌, List, [], ◌∷◌, ◌++◌, Option, Some, None, codes, bytes_eq, if◌then◌else◌}
use Rattle.std.proofs.Common.{zero, suc}
use Rattle.flux_atom.specs.declared.atom.Atom.{Atom}
use Rattle.flux_atom.specs.declared.atom.Atom.TheVariants.{Bool as Truth, Text, Int as Number}
use Rattle.flux_atom.specs.Names.{begins_name, continues_name, with_text}
use Rattle.flux_atom.specs.declared.number.NumberState.{NumberState}
use Rattle.flux_atom.specs.declared.number.NumberState.TheVariants.{Minus, Digits}
use Rattle.flux_atom.specs.Literal.{quote}
use Rattle.flux_atom.specs.NumberSteps.{number_begin, number_step}
use Rattle.flux_atom.specs.TextSteps.{TextStep, on, closes, misfits, TextRead, text_step, no_text}
use Rattle.flux_atom.specs.Space.{is_space}
use Rattle.flux_trees.specs.Hedge.{nil, leaf}
use Rattle.flux_trees.specs.Draft.{Draft, add, begin, end}
use Rattle.flux_doctext.specs.declared.sign.Sign.{Sign}
use Rattle.flux_doctext.specs.declared.sign.Sign.TheVariants.{Space, Comma, LeftBracket, RightBracket, LeftParen, RightParen, Quote, Letter, Digit, Other}

-- what a byte is, outside of strings
abbrev pub sign_of : ℕ → Sign
sign_of b =
    if is_space b then Space else
    if b == 44 then Comma else
    if b == 91 then LeftBracket else
    if b == 93 then RightBracket else
    if b == 40 then LeftParen else
    if b == 41 then RightParen else
    if b == quote then Quote else
    if begins_name b then Letter else
    if continues_name b then Digit else Other

-- where a reader is, with what it has read of the token that it is in
pub data Shape : Type 0 where
  -- a forest is expected, or nothing where an element is open
  content : Shape
  -- behind a comma: a tree is expected
  next : Shape
  -- in a name, or at its end
  name : List ℕ → Shape
  -- behind a label and white space
  label : List ℕ → Shape
  -- behind `(`, and behind `()`
  opened : Shape
  closed : Shape
  -- in a string
  string : TextRead → Shape
  -- in a number, or at its end
  number : NumberState → Shape
  -- behind a tree
  behind : Shape

-- what a byte tells of the forest: a label stands here, an element with this label begins, an atom,
-- the end of an element
pub data Event : Type 0 where
  learn : List ℕ → Event
  enter : List ℕ → Event
  push : Atom → Event
  leave : Event

-- where a byte leads, and what it tells; none where it fits nowhere
abbrev pub Step : Type 0
Step = Option (Shape × List Event)

-- the same with an event before
abbrev pub told : Event → Step → Step
told e None = None
told e (Some s) = Some (s.0, e ∷ s.1)

-- the first byte of a number
abbrev pub begin_step : Option NumberState → Step
begin_step (Some s) = Some (number s, [])
begin_step None = None

-- where a tree is awaited, or a forest: white space leads nowhere
abbrev pub tree_step : Shape → ℕ → Sign → Step
tree_step stay b Space = Some (stay, [])
tree_step stay b Quote = Some (string no_text, [])
tree_step stay b Letter = Some (name (b ∷ []), [])
tree_step stay b Digit = begin_step (number_begin b)
tree_step stay b _ = None

-- the end of an element, where one is open
abbrev pub close_step : ℕ → Step
close_step zero = None
close_step (suc n) = Some (behind, leave ∷ [])

-- at the beginning of a forest, or of an element
abbrev pub content_step : ℕ → ℕ → Sign → Step
content_step n b RightBracket = close_step n
content_step n b LeftParen = Some (opened, [])
content_step n b s = tree_step content b s

-- behind `(`
abbrev pub opened_step : Sign → Step
opened_step Space = Some (opened, [])
opened_step RightParen = Some (closed, [])
opened_step _ = None

-- behind `()`
abbrev pub closed_step : ℕ → Sign → Step
closed_step n Space = Some (closed, [])
closed_step n RightBracket = close_step n
closed_step n _ = None

-- behind a tree
abbrev pub behind_step : ℕ → Sign → Step
behind_step n Space = Some (behind, [])
behind_step n Comma = Some (next, [])
behind_step n RightBracket = close_step n
behind_step n _ = None

-- behind a label
abbrev pub label_step : List ℕ → Sign → Step
label_step text Space = Some (label text, [])
label_step text LeftBracket = Some (content, enter text ∷ [])
label_step text _ = None

-- the atom that a name is, if it is one
abbrev pub truth_of : List ℕ → Option Atom
truth_of text =
    if bytes_eq text (codes "true") then Some (Truth true) else
    if bytes_eq text (codes "false") then Some (Truth false) else None

-- a byte behind a name
abbrev pub named_step : List ℕ → Option Atom → ℕ → Sign → Step
named_step text (Some atom) n s = told (push atom) (behind_step n s)
named_step text None n s = told (learn text) (label_step text s)

-- in a name, which is taken as long as possible
abbrev pub name_step : List ℕ → ℕ → ℕ → Sign → Step
name_step text n b Letter = Some (name (text ++ b ∷ []), [])
name_step text n b Digit = Some (name (text ++ b ∷ []), [])
name_step text n b s = named_step text (truth_of text) n s

-- in a string
abbrev pub string_step : TextRead → TextStep → Step
string_step r (on state added) = Some (string (state, r.1 ++ added), [])
string_step r closes = Some (behind, push (Text r.1) ∷ [])
string_step r misfits = None

-- a byte behind a number, which may not end behind `-`
abbrev pub numbered_step : NumberState → ℕ → Sign → Step
numbered_step Minus n s = None
numbered_step (Digits z) n s = told (push (Number z)) (behind_step n s)

-- in a number, whose digits are taken as long as possible
abbrev pub digit_step : NumberState → Option NumberState → ℕ → Sign → Step
digit_step at (Some to) n s = Some (number to, [])
digit_step at None n s = numbered_step at n s

-- a byte where so many elements are open
abbrev pub step : Shape → ℕ → ℕ → Step
step content n b = content_step n b (sign_of b)
step next n b = tree_step next b (sign_of b)
step (name text) n b = name_step text n b (sign_of b)
step (label text) n b = label_step text (sign_of b)
step opened n b = opened_step (sign_of b)
step closed n b = closed_step n (sign_of b)
step (string r) n b = string_step r (text_step r.0 b)
step (number at) n b = digit_step at (number_step at b) n (sign_of b)
step behind n b = behind_step n (sign_of b)

-- a text may end behind a name that is an atom
abbrev pub end_named : Option Atom → Option (List Event)
end_named (Some atom) = Some (push atom ∷ [])
end_named None = None

-- and behind a number
abbrev pub end_numbered : NumberState → Option (List Event)
end_numbered Minus = None
end_numbered (Digits z) = Some (push (Number z) ∷ [])

-- what the end of the text tells; none where the text may not end
abbrev pub end_step : Shape → Option (List Event)
end_step (name text) = end_named (truth_of text)
end_step (number at) = end_numbered at
end_step closed = Some []
end_step behind = Some []
end_step _ = None

-- the number of a text in a table that holds it
abbrev pub number_of : List (List ℕ) → List ℕ → ℕ
number_of [] text = 0
number_of (n ∷ names) text = if bytes_eq text n then 0 else suc (number_of names text)

-- a plain forest that is being written
abbrev pub PlainDraft : Type 0
PlainDraft = Draft (Unit {0})

-- what events make of a forest that is being written, its labels numbered by a table
abbrev pub draft_after : List (List ℕ) → List Event → PlainDraft → PlainDraft
draft_after names [] d = d
draft_after names (learn text ∷ es) d = draft_after names es d
draft_after names (enter text ∷ es) d = draft_after names es (begin d tt (number_of names text))
draft_after names (push atom ∷ es) d = draft_after names es (add d (leaf tt atom nil))
draft_after names (leave ∷ es) d = draft_after names es (end d)

-- what they make of a table
abbrev pub names_after : List Event → List (List ℕ) → List (List ℕ)
names_after [] names = names
names_after (learn text ∷ es) names = names_after es (with_text names text)
names_after (_ ∷ es) names = names_after es names

-- whether a text may end there, where so many elements are open
abbrev pub end_fits : Option (List Event) → ℕ → Bool
end_fits None n = false
end_fits (Some es) n = n == 0
