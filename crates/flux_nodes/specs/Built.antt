-- Trees that are laid out in cells, node by node from the last to the first.
use Rattle.flux_nodes.specs.Tables.{one_if, times}
use Rattle.std.specs.Prelude.{◌≡◌, ℕ, ◌+◌, ◌<◌, ◌≤◌, suc, length, List, Option, Some, None}
use Rattle.std.specs.List.{slice_get}
use Rattle.flux_trees.specs.Hedge.{Hedge, Plain, nil, elem, leaf, join, size, opened}
use Rattle.flux_trees.specs.Edits.{beyond, number}
use Rattle.flux_forest.specs.declared.node.Item.{Item}
use Rattle.flux_forest.specs.declared.node.Item.TheVariants.{Element, Leaf as ItemLeaf}
use Rattle.flux_forest.specs.declared.node.Node.{Node}
use Rattle.flux_forest.specs.Flat.{element_node, leaf_node, hedge_of, IsFlat}
use Rattle.flux_nodes.specs.declared.cell.NodeId.{NodeId}
use Rattle.flux_nodes.specs.declared.cell.Kind.{Kind}
use Rattle.flux_nodes.specs.declared.cell.Kind.TheVariants.{Elem, Leaf}
use Rattle.flux_nodes.specs.declared.cell.Cell.{Cell}
use Rattle.flux_nodes.specs.Laid.{numbers_of, id, first_id, last_id, IsLaid}

-- what the cell of a node holds
abbrev pub kind_of : Item → Kind
kind_of (Element a) = Elem a
kind_of (ItemLeaf x) = Leaf x

-- it is the first node of the forest
abbrev pub IsHeadNode : Node → Plain → Type 0
IsHeadNode node nil = ⊥
IsHeadNode node (elem _ a c r) = node ≡ element_node a (suc (size c))
IsHeadNode node (leaf _ x r) = node ≡ leaf_node x

-- the cells hold a forest, and nothing else has changed in them
pub record IsBuilt (old new : List Cell) (h : Hedge ℕ) (last : Option NodeId) : Type 0 where
  pub laid : IsLaid new None None h None
  pub last_is : last ≡ last_id h None
  pub others : (k : ℕ) → times k h ≡ 0 → slice_get new k ≡ slice_get old k

-- trees that are laid out, of which the first ones are to be put into a parent
pub record HasTrees (cells : List Cell) (first after last : Option NodeId) (parent : ℕ)
    : Type 0 where
  pub inside : Hedge ℕ
  pub rest : Hedge ℕ
  pub laid : IsLaid cells None None (join inside rest) None
  pub first_is : first ≡ first_id inside None
  pub after_is : after ≡ first_id rest None
  pub last_is : last ≡ last_id (join inside rest) None
  pub once : (k : ℕ) → one_if k parent + (times k inside + times k rest) ≤ 1
  pub fits : size inside ≤ length cells

pub record IsEnclosed (old new : List Cell) (inside rest : Hedge ℕ) (parent : ℕ)
    (last : Option NodeId) : Type 0 where
  pub laid : IsLaid new (Some (id parent)) None inside None
  pub prev : Option NodeId
  pub behind : IsLaid new None prev rest None
  pub last_is : last ≡ last_id inside None
  pub others : (k : ℕ) → times k inside ≡ 0 → slice_get new k ≡ slice_get old k

-- the tree before one, or the last of all
abbrev pub IsLastBefore : List Cell → Option NodeId → Option NodeId → Option NodeId → Type 0
IsLastBefore cells (Some after) last r = (c : Cell) → slice_get cells after.0 ≡ Some c → r ≡ c.prev
IsLastBefore cells None last r = r ≡ last

-- a node that is to be put before the trees behind it
pub record HasNode (cells : List Cell) (last : Option NodeId) (numbers : List NodeId) (i : ℕ)
    (node : Node) : Type 0 where
  pub tree : Plain
  pub head_is : IsHeadNode node tree
  pub laid :
      IsLaid cells None None (number (opened tree) (beyond (suc i) (numbers_of numbers))) None
  pub last_is : last ≡ last_id (number (opened tree) (beyond (suc i) (numbers_of numbers))) None
  pub sized : i + size tree ≡ length numbers
  pub fits : length numbers ≤ length cells
  pub within : (k : ℕ) → k < length numbers → numbers_of numbers k < length cells
  pub once : (k : ℕ) → times k (number tree (beyond i (numbers_of numbers))) ≤ 1

-- nodes that are to be laid out, each in the cell of its number
pub record CanBuild (cells : List Cell) (nodes : List Node) (numbers : List NodeId) : Type 0 where
  pub flat : IsFlat nodes
  pub length_is : length numbers ≡ length nodes
  pub fits : length numbers ≤ length cells
  pub within : (k : ℕ) → k < length numbers → numbers_of numbers k < length cells
  pub once : (k : ℕ) → times k (number (hedge_of nodes) (numbers_of numbers)) ≤ 1
