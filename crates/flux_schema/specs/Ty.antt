-- Types of forests: regular expressions over truth values, texts, whole numbers and elements, with
-- names for definitions.
use Rattle.std.specs.Prelude.{◌<◌, ◌≤◌, ℕ, ◌+◌, max}
use Rattle.flux_atom.specs.declared.atom.AtomKind.{AtomKind}

-- no tree, an atom of a kind, an element with a label and a type of its content, an element of any
-- label with a type of its content, one type and then another, one of two types, a type any number
-- of times, the definition with an index
pub data Ty : Type 0 where
  empty : Ty
  atom : (kind : AtomKind) → Ty
  element : (label : ℕ) (t : Ty) → Ty
  any_element : (t : Ty) → Ty
  seq : (t u : Ty) → Ty
  alt : (t u : Ty) → Ty
  star : (t : Ty) → Ty
  named : (index : ℕ) → Ty

-- how many nodes a type has
abbrev pub size : Ty → ℕ
size empty = 1
size (atom k) = 1
size (element n t) = size t + 1
size (any_element t) = size t + 1
size (seq t u) = size t + size u + 1
size (alt t u) = size t + size u + 1
size (star t) = size t + 1
size (named x) = 1

-- one for a leaf, else one more than the greatest height below
abbrev pub height : Ty → ℕ
height empty = 1
height (atom k) = 1
height (element n t) = height t + 1
height (any_element t) = height t + 1
height (seq t u) = max (height t) (height u) + 1
height (alt t u) = max (height t) (height u) + 1
height (star t) = height t + 1
height (named x) = 1

-- the limits of a type in a script: 65,536 nodes, 500 levels
pub record IsWithinLimits (t : Ty) : Type 0 where
  pub nodes : size t ≤ 65536
  pub levels : height t ≤ 500

-- each index that the type names, at any level, is below n
abbrev pub NamesBelow : ℕ → Ty → Type 0
NamesBelow n empty = Unit {0}
NamesBelow n (atom k) = Unit {0}
NamesBelow n (element m t) = NamesBelow n t
NamesBelow n (any_element t) = NamesBelow n t
NamesBelow n (seq t u) = NamesBelow n t × NamesBelow n u
NamesBelow n (alt t u) = NamesBelow n t × NamesBelow n u
NamesBelow n (star t) = NamesBelow n t
NamesBelow n (named x) = x < n
