-- What it means to read a document: the forest that it spells, or where it stops being a document.
use Rattle.std.specs.Prelude.{◌≡◌, ℕ, List}
use Rattle.flux_atom.specs.Spelling.{IsLongest}
use Rattle.flux_trees.specs.Hedge.{Plain}
use Rattle.flux_doctext.specs.declared.read.DocFault.{DocFault}
use Rattle.flux_doctext.specs.declared.read.DocFault.TheVariants.{Text, Memory}
use Rattle.flux_doctext.specs.Text.{text, IsForestOver}
use Rattle.flux_doctext.specs.Labels.{labels, learnt}
use Rattle.flux_doctext.specs.Spells.{Spells, IsViable}

-- the bytes spell the forest over the new table, which has learnt its labels in the order of the
-- text
pub record IsDocument (old new : List (List ℕ)) (bytes : List ℕ) (v : Plain) : Type 0 where
  pub spells : Spells new bytes v
  pub over : IsForestOver new v
  pub learns : new ≡ learnt old (labels new v)

-- the bytes spell no forest over any table, and the place is the length of their longest viable
-- prefix
pub record IsNoDocument (bytes : List ℕ) (place : ℕ) : Type 0 where
  pub spells_none : (names : List (List ℕ)) (v : Plain) → ¬ (Spells names bytes v)
  pub longest : IsLongest IsViable bytes place

-- what each fault says of the bytes: of want of memory nothing
abbrev pub IsDocFault : List ℕ → DocFault → Type 0
IsDocFault bytes (Text place) = IsNoDocument bytes place
IsDocFault bytes (Memory error) = Unit {0}

-- the canonical text of a forest over a table spells that forest, and no other
abbrev pub CanonicalTextSpells : Type 0
CanonicalTextSpells =
    (names : List (List ℕ)) (v : Plain) → IsForestOver names v →
    Spells names (text names v) v × ((w : Plain) → Spells names (text names v) w → w ≡ v)

-- bytes spell one forest at most over a table
abbrev pub SpelledForestIsUnique : Type 0
SpelledForestIsUnique =
    (names : List (List ℕ)) (bytes : List ℕ) (v w : Plain) →
    Spells names bytes v → Spells names bytes w → v ≡ w

-- what bytes spell over a table is a forest over it: its labels are labels of the table, its texts
-- are characters, and its numbers have 64 bits
abbrev pub SpelledForestIsOverTable : Type 0
SpelledForestIsOverTable =
    (names : List (List ℕ)) (bytes : List ℕ) (v : Plain) →
    Spells names bytes v → IsForestOver names v
