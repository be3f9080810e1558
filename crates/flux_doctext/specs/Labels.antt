-- The labels of a forest as a table learns them.
use Rattle.std.specs.Prelude.{ℕ, List, [], ◌∷◌, ◌++◌}
use Rattle.flux_atom.specs.Names.{name_text, with_text}
use Rattle.flux_trees.specs.Hedge.{Plain, nil, elem, leaf}

-- the texts of the labels in document order
abbrev pub labels : List (List ℕ) → Plain → List (List ℕ)
labels names nil = []
labels names (elem n a c r) = name_text names a ∷ (labels names c ++ labels names r)
labels names (leaf n x r) = labels names r

-- the table that was shown the texts, one after the other
abbrev pub learnt : List (List ℕ) → List (List ℕ) → List (List ℕ)
learnt table [] = table
learnt table (text ∷ texts) = learnt (with_text table text) texts
