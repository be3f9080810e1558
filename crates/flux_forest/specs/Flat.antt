-- A forest as the list of its nodes in document order, each with the number of nodes of its tree.
use Rattle.std.specs.Prelude.{◌≡◌, ℕ, ◌+◌, ◌-◌, List, [], ◌∷◌, ◌++◌}
use Rattle.std.proofs.Common.{zero, suc, pred}
use Rattle.flux_atom.specs.declared.atom.Atom.{Atom}
use Rattle.flux_trees.specs.Hedge.{Plain, nil, elem, leaf, size}
use Rattle.flux_trees.specs.Draft.{Draft, done, begun}
use Rattle.flux_forest.specs.declared.node.Item.{Item}
use Rattle.flux_forest.specs.declared.node.Item.TheVariants.{Element, Leaf}
use Rattle.flux_forest.specs.declared.node.Node.{Node}

-- a plain forest that is being written
abbrev pub PlainDraft : Type 0
PlainDraft = Draft (Unit {0})

-- the node of an element whose tree has n nodes
abbrev pub element_node : ℕ → ℕ → Node
element_node a n = record { item = Element a; size = n }

-- the node of an atom
abbrev pub leaf_node : Atom → Node
leaf_node x = record { item = Leaf x; size = 1 }

-- the nodes of a forest
abbrev pub flat : Plain → List Node
flat nil = []
flat (elem _ a c r) = element_node a (suc (size c)) ∷ (flat c ++ flat r)
flat (leaf _ x r) = leaf_node x ∷ flat r

-- the nodes of a forest that is being written
abbrev pub flat_draft : PlainDraft → List Node
flat_draft (done h) = flat h
flat_draft (begun b _ a d) = flat b ++ element_node a 0 ∷ flat_draft d

-- where the elements stand that are begun, where the first of these nodes stands at i
abbrev pub places : ℕ → PlainDraft → List ℕ
places i (done h) = []
places i (begun b _ a d) = (i + size b) ∷ places (i + size b + 1) d

-- the trees that the first n nodes hold
abbrev pub take_size : ℕ → Plain → Plain
take_size n nil = nil
take_size zero (elem _ a c r) = nil
take_size (suc n) (elem _ a c r) = elem tt a c (take_size (n - size c) r)
take_size zero (leaf _ x r) = nil
take_size (suc n) (leaf _ x r) = leaf tt x (take_size n r)

-- the trees behind them
abbrev pub drop_size : ℕ → Plain → Plain
drop_size n nil = nil
drop_size zero (elem _ a c r) = elem tt a c r
drop_size (suc n) (elem _ a c r) = drop_size (n - size c) r
drop_size zero (leaf _ x r) = leaf tt x r
drop_size (suc n) (leaf _ x r) = drop_size n r

-- a node in front of a forest takes its content from there
abbrev pub put : Item → ℕ → Plain → Plain
put (Element a) n h = elem tt a (take_size (pred n) h) (drop_size (pred n) h)
put (Leaf x) n h = leaf tt x h

-- the forest of a list of nodes
abbrev pub hedge_of : List Node → Plain
hedge_of [] = nil
hedge_of (n ∷ ns) = put n.item n.size (hedge_of ns)

-- a change of the trees of the outermost place
abbrev pub on_outer : (Plain → Plain) → PlainDraft → PlainDraft
on_outer f (done h) = done (f h)
on_outer f (begun b _ a d) = begun (f b) tt a d

-- a node in front of a forest that is being written: of size 0 it is an element that is begun
abbrev pub put_in_draft : Item → ℕ → PlainDraft → PlainDraft
put_in_draft (Element a) zero d = begun nil tt a d
put_in_draft (Element a) (suc n) d = on_outer (put (Element a) (suc n)) d
put_in_draft (Leaf x) n d = on_outer (put (Leaf x) n) d

-- the forest that is being written, of a list of nodes
abbrev pub draft_of : List Node → PlainDraft
draft_of [] = done nil
draft_of (n ∷ ns) = put_in_draft n.item n.size (draft_of ns)

-- the sizes are those of the trees
abbrev pub IsFlat : List Node → Type 0
IsFlat nodes = flat (hedge_of nodes) ≡ nodes

-- the nodes are those of the draft d, and ps says where its begun elements stand
pub record IsDraft (d : PlainDraft) (ns : List Node) (ps : List ℕ) : Type 0 where
  pub nodes : ns ≡ flat_draft d
  pub begun_at : ps ≡ places 0 d
