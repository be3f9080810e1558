-- What may be asked of a tree, over forests with any note on their nodes.
use Rattle.std.specs.Prelude.{ℕ, Bool, true, false, ◌==◌}
use Rattle.flux_atom.specs.declared.atom.AtomKind.{AtomKind}
use Rattle.flux_atom.specs.declared.atom.AtomKind.TheVariants as kind
use Rattle.flux_atom.specs.Atom.{kind_of}
use Rattle.flux_trees.specs.Hedge.{Hedge, nil, elem, leaf}
use Rattle.flux_calculus.specs.declared.ask.Test.{Test}
use Rattle.flux_calculus.specs.declared.ask.Test.TheVariants.{Label, AnyElement, OfText, OfBool, OfInt}

-- whether an element with this label passes: a label is passed by elements of that label, `*` by
-- every element
abbrev pub element_matches : Test → ℕ → Bool
element_matches (Label n) a = a == n
element_matches AnyElement a = true
element_matches OfText a = false
element_matches OfBool a = false
element_matches OfInt a = false

-- whether an atom of this kind passes: `string()` is passed by texts, `bool()` by truth values,
-- `int()` by numbers
abbrev pub kind_matches : Test → AtomKind → Bool
kind_matches (Label n) k = false
kind_matches AnyElement k = false
kind_matches OfText kind.Bool = false
kind_matches OfText kind.Text = true
kind_matches OfText kind.Int = false
kind_matches OfBool kind.Bool = true
kind_matches OfBool kind.Text = false
kind_matches OfBool kind.Int = false
kind_matches OfInt kind.Bool = false
kind_matches OfInt kind.Text = false
kind_matches OfInt kind.Int = true

module _ {N : Type 0} where
  -- whether the forest is one tree
  abbrev pub is_tree : Hedge N → Bool
  is_tree (elem m a c nil) = true
  is_tree (leaf m x nil) = true
  is_tree _ = false

  -- whether there is a first tree that passes
  abbrev pub matches : Test → Hedge N → Bool
  matches t nil = false
  matches t (elem m a c r) = element_matches t a
  matches t (leaf m x r) = kind_matches t (kind_of x)
