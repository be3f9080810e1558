-- What a document spells: the grammar of forests as text.
use Rattle.std.specs.Prelude.{◌≡◌, ℕ, List, ◌++◌, Some, codes, slice_get}
use Rattle.flux_atom.specs.declared.atom.Atom.{Atom}
use Rattle.flux_atom.specs.Names.{IsLabel, IsTable}
use Rattle.flux_atom.specs.Space.{IsSpace}
use Rattle.flux_atom.specs.Spelling.{IsLiteral}
use Rattle.flux_trees.specs.Hedge.{Plain, nil, elem, leaf, join}

-- the parts of a document: a forest; what stands in an element's brackets; one tree and more, with
-- commas between them; one tree
pub data Part : Type 0 where
  whole : Part
  inside : Part
  trees : Part
  tree : Part

-- the bytes are such a part and spell the forest, with white space before, between and behind the
-- tokens
pub data Spelled (names : List (List ℕ)) : Part → List ℕ → Plain → Type 0 where
  -- a forest: `()`, or trees
  none : {bytes : List ℕ} (s t u : List ℕ) → IsSpace s → IsSpace t → IsSpace u →
      s ++ (codes "(" ++ (t ++ (codes ")" ++ u))) ≡ bytes → Spelled names whole bytes nil
  some : {bytes : List ℕ} {v : Plain} → Spelled names trees bytes v → Spelled names whole bytes v
  -- in brackets: nothing, or a forest
  nothing : {bytes : List ℕ} → IsSpace bytes → Spelled names inside bytes nil
  something : {bytes : List ℕ} {v : Plain} →
      Spelled names whole bytes v → Spelled names inside bytes v
  -- trees: one, or one, a comma and trees
  last : {bytes : List ℕ} {v : Plain} → Spelled names tree bytes v → Spelled names trees bytes v
  more : {bytes : List ℕ} {z : Plain} (first rest : List ℕ) (v w : Plain) →
      Spelled names tree first v → Spelled names trees rest w →
      first ++ (codes "," ++ rest) ≡ bytes → join v w ≡ z → Spelled names trees bytes z
  -- a tree: a label and brackets, or a literal
  element : {bytes : List ℕ} (s label t content u : List ℕ) (a : ℕ) {v : Plain} →
      IsSpace s → IsSpace t → IsSpace u →
      IsLabel label → slice_get names a ≡ Some label → Spelled names inside content v →
      s ++ (label ++ (t ++ (codes "[" ++ (content ++ (codes "]" ++ u))))) ≡ bytes →
      Spelled names tree bytes (elem tt a v nil)
  atom : {bytes : List ℕ} (s literal u : List ℕ) (x : Atom) →
      IsSpace s → IsSpace u → IsLiteral literal x →
      s ++ (literal ++ u) ≡ bytes → Spelled names tree bytes (leaf tt x nil)

-- the bytes spell the forest, whose labels are read through the table
pub record Spells (names : List (List ℕ)) (bytes : List ℕ) (v : Plain) : Type 0 where
  pub table : IsTable names
  pub forest : Spelled names whole bytes v

-- more bytes can make them spell a forest
pub record IsViable (bytes : List ℕ) : Type 0 where
  pub more : List ℕ
  pub names : List (List ℕ)
  pub forest : Plain
  pub spells : Spells names (bytes ++ more) forest
