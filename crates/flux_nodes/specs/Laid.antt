-- Cells that are the nodes of a numbered forest.
use Rattle.flux_nodes.specs.Tables.{times}
use Rattle.std.specs.Prelude.{◌≡◌, ℕ, ◌≤◌, length, List, [], ◌∷◌, Option, Some, None}
use Rattle.std.proofs.Common.{zero, suc}
use Rattle.std.specs.List.{slice_get}
use Rattle.std.proofs.Math.ListN.{get_or}
use Rattle.flux_trees.specs.Edits.{Supply}
use Rattle.flux_atom.specs.declared.atom.Atom.{Atom}
use Rattle.flux_trees.specs.Hedge.{Hedge, nil, elem, leaf, size}
use Rattle.flux_nodes.specs.declared.cell.NodeId.{NodeId}
use Rattle.flux_nodes.specs.declared.cell.Kind.{Kind}
use Rattle.flux_nodes.specs.declared.cell.Kind.TheVariants.{Elem, Leaf}
use Rattle.flux_nodes.specs.declared.cell.Cell.{Cell}
use Rattle.flux_nodes.specs.declared.run.Run.{Run}

abbrev pub id : ℕ → NodeId
id m = record { 0 = m }

-- the number of the first tree, or o where there is none
abbrev pub first_id : Hedge ℕ → Option NodeId → Option NodeId
first_id nil o = o
first_id (elem m a c r) o = Some (id m)
first_id (leaf m x r) o = Some (id m)

-- the number of the last tree, or o where there is none
abbrev pub last_id : Hedge ℕ → Option NodeId → Option NodeId
last_id nil o = o
last_id (elem m a c r) o = last_id r (Some (id m))
last_id (leaf m x r) o = last_id r (Some (id m))

abbrev pub elem_cell :
    ℕ → Option NodeId → Option NodeId → Option NodeId → Option NodeId → Option NodeId → Cell
elem_cell a p v w f b =
    record { kind = Elem a; parent = p; prev = v; next = w; first = f; last = b }

abbrev pub leaf_cell : Atom → Option NodeId → Option NodeId → Option NodeId → Cell
leaf_cell x p v w =
    record { kind = Leaf x; parent = p; prev = v; next = w; first = None; last = None }

-- the trees stand at the cells of their numbers, under p, behind v and before w
abbrev pub IsLaid : List Cell → Option NodeId → Option NodeId → Hedge ℕ → Option NodeId → Type 0
IsLaid cells p v nil w = Unit {0}
IsLaid cells p v (elem m a c r) w =
    (slice_get cells m ≡ Some (elem_cell a p v (first_id r w) (first_id c None) (last_id c None))) ×
    IsLaid cells (Some (id m)) None c None × IsLaid cells p (Some (id m)) r w
IsLaid cells p v (leaf m x r) w =
    (slice_get cells m ≡ Some (leaf_cell x p v (first_id r w))) × IsLaid cells p (Some (id m)) r w

-- one cell changed
abbrev pub edit : (Cell → Cell) → ℕ → List Cell → List Cell
edit f i [] = []
edit f zero (c ∷ cs) = f c ∷ cs
edit f (suc i) (c ∷ cs) = c ∷ edit f i cs

abbrev pub with_parent : Option NodeId → Cell → Cell
with_parent o c = record c { parent = o }

abbrev pub with_prev : Option NodeId → Cell → Cell
with_prev o c = record c { prev = o }

abbrev pub with_next : Option NodeId → Cell → Cell
with_next o c = record c { next = o }

abbrev pub with_first : Option NodeId → Cell → Cell
with_first o c = record c { first = o }

abbrev pub with_last : Option NodeId → Cell → Cell
with_last o c = record c { last = o }

-- how many trees
abbrev pub count : Hedge ℕ → ℕ
count nil = 0
count (elem m a c r) = suc (count r)
count (leaf m x r) = suc (count r)

-- trees that stand in the cells from the run's first to its last
pub record RunLaid (cells : List Cell) (run : Run) : Type 0 where
  pub trees : Hedge ℕ
  pub parent : Option NodeId
  pub prev : Option NodeId
  pub next : Option NodeId
  pub laid : IsLaid cells parent prev trees next
  pub first_is : first_id trees None ≡ Some run.first
  pub last_is : last_id trees None ≡ Some run.last
  pub once : (k : ℕ) → times k trees ≤ 1
  pub fits : size trees ≤ length cells

pub record IsUnder (old new : List Cell) (run : Run) (p : Option NodeId) (r : RunLaid old run)
    : Type 0 where
  pub laid : IsLaid new p r.prev r.trees r.next
  pub others : (k : ℕ) → times k r.trees ≡ 0 → slice_get new k ≡ slice_get old k

abbrev pub with_kind : Kind → Cell → Cell
with_kind k c = record c { kind = k }

-- the numbers of a list, as a supply
abbrev pub numbers_of : List NodeId → Supply
numbers_of ns i = (get_or ns i (id 0)).0
