-- What a forest begins with.
use Rattle.std.specs.Prelude.{◌≡◌, ◌≤◌, length}
use Rattle.flux_trees.specs.Hedge.{Plain, nil, elem, leaf, content, others, trees}
use Rattle.flux_forest.specs.declared.view.Head.{Head}
use Rattle.flux_forest.specs.declared.view.Head.TheVariants.{Nothing, Elem, Atom, Many}
use Rattle.flux_forest.specs.declared.view.First.{First}
use Rattle.flux_forest.specs.declared.view.First.TheVariants.{Nothing as NoNode, Elem as ElemNode, Atom as AtomNode}

-- no tree, one element, one atom, or two trees and more
abbrev pub IsHead : Head → Plain → Type 0
IsHead Nothing h = h ≡ nil
IsHead (Elem a) h = h ≡ elem tt a (content h) nil
IsHead (Atom x) h = h ≡ leaf tt x.now nil
IsHead Many h = 2 ≤ length (trees h)

-- no node, an element's or an atom's, with any trees behind it
abbrev pub IsFirst : First → Plain → Type 0
IsFirst NoNode h = h ≡ nil
IsFirst (ElemNode a) h = h ≡ elem tt a (content h) (others h)
IsFirst (AtomNode x) h = h ≡ leaf tt x.now (others h)
