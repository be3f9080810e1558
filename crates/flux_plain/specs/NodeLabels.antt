-- Labels of nodes that are laid out.
use Rattle.std.specs.Prelude.{ℕ, zero, suc, List, [], ◌∷◌, Option, Some, None}
use Rattle.flux_forest.specs.declared.node.Item.{Item}
use Rattle.flux_forest.specs.declared.node.Item.TheVariants.{Element, Leaf}
use Rattle.flux_forest.specs.declared.node.Node.{Node}

-- the label of an element
abbrev pub label_of : Item → Option ℕ
label_of (Element a) = Some a
label_of (Leaf x) = None

-- an element with another label; an atom stays
abbrev pub relabelled_item : ℕ → Item → Item
relabelled_item b (Element a) = Element b
relabelled_item b (Leaf x) = Leaf x

abbrev pub relabelled_node : ℕ → Node → Node
relabelled_node b n = record { item = relabelled_item b n.item; size = n.size }

-- so the node at a place, if there is one
abbrev pub relabelled_nodes : ℕ → ℕ → List Node → List Node
relabelled_nodes i b [] = []
relabelled_nodes zero b (n ∷ ns) = relabelled_node b n ∷ ns
relabelled_nodes (suc i) b (n ∷ ns) = n ∷ relabelled_nodes i b ns
