-- A place in a numbered forest, and what stands around it.
use Rattle.flux_nodes.specs.Tables.{one_if, times}
use Rattle.std.specs.Prelude.{◌≡◌, ℕ, ◌+◌, List, Option, Some, None}
use Rattle.std.specs.List.{slice_get}
use Rattle.flux_trees.specs.Hedge.{Hedge, elem, join}
use Rattle.flux_nodes.specs.declared.cell.NodeId.{NodeId}
use Rattle.flux_nodes.specs.declared.cell.Cell.{Cell}
use Rattle.flux_nodes.specs.Laid.{id, first_id, last_id, elem_cell, IsLaid, edit, with_next, with_prev, with_first, with_last}

-- the elements around a place, innermost first, each with the trees before and after it
pub data Above : Type 0 where
  top : Above
  under : Above → Hedge ℕ → ℕ → ℕ → Hedge ℕ → Above

abbrev pub fill : Above → Hedge ℕ → Hedge ℕ
fill top h = h
fill (under u l m a r) h = fill u (join l (elem m a h r))

abbrev pub parent_of : Above → Option NodeId
parent_of top = None
parent_of (under u l m a r) = Some (id m)

abbrev pub times_above : ℕ → Above → ℕ
times_above k top = 0
times_above k (under u l m a r) = one_if k m + (times k l + (times k r + times_above k u))

-- the trees beside a place, and the elements around it
pub record Seat : Type 0 where
  pub above : Above
  pub left : Hedge ℕ
  pub right : Hedge ℕ

abbrev pub seated : Seat → Hedge ℕ → Hedge ℕ
seated s h = fill s.above (join s.left (join h s.right))

-- the elements around a place, where its trees begin with f and end with b
abbrev pub IsAbove :
    List Cell → Option NodeId → Option NodeId → Above → Option NodeId → Option NodeId → Type 0
IsAbove cells t e top f b = (t ≡ f) × (e ≡ b)
IsAbove cells t e (under u l m a r) f b =
    (slice_get cells m ≡ Some (elem_cell a (parent_of u) (last_id l None) (first_id r None) f b)) ×
    IsLaid cells (parent_of u) None l (Some (id m)) ×
    IsLaid cells (parent_of u) (Some (id m)) r None ×
    IsAbove cells t e u (first_id l (Some (id m))) (last_id r (Some (id m)))

-- what stands after v under p becomes w: the cells, and the first tree of all
abbrev pub ahead : List Cell → Option NodeId → Option NodeId → Option NodeId → List Cell
ahead cells p (Some v) w = edit (with_next w) v.0 cells
ahead cells (Some p) None w = edit (with_first w) p.0 cells
ahead cells None None w = cells

abbrev pub ahead_top : Option NodeId → Option NodeId → Option NodeId → Option NodeId → Option NodeId
ahead_top t p (Some v) w = t
ahead_top t (Some p) None w = t
ahead_top t None None w = w

-- what stands before w under p becomes v: the cells, and the last tree of all
abbrev pub behind : List Cell → Option NodeId → Option NodeId → Option NodeId → List Cell
behind cells p (Some w) v = edit (with_prev v) w.0 cells
behind cells (Some p) None v = edit (with_last v) p.0 cells
behind cells None None v = cells

abbrev pub behind_top :
    Option NodeId → Option NodeId → Option NodeId → Option NodeId → Option NodeId
behind_top e p (Some w) v = e
behind_top e (Some p) None v = e
behind_top e None None v = v

-- the cells hold the document, whose first and last trees are t and e
pub record IsDoc (cells : List Cell) (t e : Option NodeId) (d : Hedge ℕ) : Type 0 where
  pub laid : IsLaid cells None None d None
  pub first_is : t ≡ first_id d None
  pub last_is : e ≡ last_id d None
