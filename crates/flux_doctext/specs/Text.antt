-- The canonical text of a forest, whose labels are read through a table of names.
use Rattle.std.specs.Prelude.{◌≡◌, ℕ, List, [], ◌++◌, codes, IsSomeAnd, slice_get}
use Rattle.std.specs.Int.{w64}
use Rattle.std.specs.Int.RustNames.{FitsSigned}
use Rattle.flux_atom.specs.declared.atom.Atom.{Atom}
use Rattle.flux_atom.specs.declared.atom.Atom.TheVariants.{Bool as Truth, Text, Int as Number}
use Rattle.flux_atom.specs.Names.{IsLabel, IsTable}
pub use Rattle.flux_atom.specs.Names.{name_text}
pub use Rattle.flux_atom.specs.ReadLiteral.{IsProper}
use Rattle.flux_atom.specs.Literal.{literal}
use Rattle.flux_trees.specs.Hedge.{Plain, nil, elem, leaf}
use Rattle.flux_trees.specs.Each.{EachLabel, EachAtom}

-- the comma between a tree and those behind it
abbrev pub comma : Plain → List ℕ
comma nil = []
comma _ = codes ","

-- the trees, with commas between them: an element is its label and, in brackets, its content; an
-- atom is its literal
abbrev pub trees_text : List (List ℕ) → Plain → List ℕ
trees_text names nil = []
trees_text names (elem n a c r) =
    name_text names a
    ++ (codes "[" ++ (trees_text names c ++ (codes "]" ++ (comma r ++ trees_text names r))))
trees_text names (leaf n x r) = literal x ++ (comma r ++ trees_text names r)

-- the canonical text: that of the trees, or `()` for none
abbrev pub text : List (List ℕ) → Plain → List ℕ
text names nil = codes "()"
text names h = trees_text names h

-- the table has the number, with the text of a label
abbrev pub NamesLabel : List (List ℕ) → ℕ → Type 0
NamesLabel names a = IsSomeAnd (slice_get names a) IsLabel

-- a forest over a table: the text of each label is a label, and each atom is as memory has it
pub record IsForestOver (names : List (List ℕ)) (h : Plain) : Type 0 where
  pub table : IsTable names
  pub labels : EachLabel (NamesLabel names) h
  pub atoms : EachAtom IsProper h

-- a number has 64 bits; truth values and texts are any
abbrev pub HasRange : Atom → Type 0
HasRange (Truth b) = Unit {0}
HasRange (Text text) = Unit {0}
HasRange (Number z) = FitsSigned w64 z

-- where the text of each label is a label and each number has 64 bits, the canonical text of a
-- forest is that of no other such forest
abbrev pub TextTellsForest : Type 0
TextTellsForest =
    (names : List (List ℕ)) → IsTable names → (v w : Plain) →
    EachLabel (NamesLabel names) v → EachLabel (NamesLabel names) w →
    EachAtom HasRange v → EachAtom HasRange w →
    text names v ≡ text names w → v ≡ w
