-- Trees that are copied out of cells, by a walk along their links.
use Rattle.std.specs.Prelude.{◌≡◌, ℕ, ◌+◌, ◌-◌, ◌*◌, ◌<◌, suc, length, List, Option, Some, None}
use Rattle.flux_trees.specs.Hedge.{Hedge, join, size, erase}
use Rattle.flux_trees.specs.Draft.{done, begun, depth}
use Rattle.flux_forest.specs.Flat.{PlainDraft}
use Rattle.flux_nodes.specs.declared.cell.NodeId.{NodeId}
use Rattle.flux_nodes.specs.declared.cell.Cell.{Cell}
use Rattle.flux_nodes.specs.declared.copying.Walk.{Walk}
use Rattle.flux_nodes.specs.Laid.{id, first_id, RunLaid}
use Rattle.flux_nodes.specs.Seats.{Above, top, under, fill}

-- the parent of a place in trees whose parent is p
abbrev pub parent_from : Above → Option NodeId → Option NodeId
parent_from top p = p
parent_from (under u l m a r) p = Some (id m)

-- the elements around a place are begun, each behind the trees before it
abbrev pub begun_around : Above → PlainDraft → PlainDraft
begun_around top d = d
begun_around (under u l m a r) d = begun_around u (begun (erase l) tt a d)

-- how many nodes are written, elements that are begun among them
abbrev pub written_in : PlainDraft → ℕ
written_in (done h) = size h
written_in (begun b n a d) = suc (size b + written_in d)

-- how many steps are left at most, where there are n cells
abbrev pub steps_to : ℕ → PlainDraft → ℕ
steps_to n d = (2 * n + depth d) - 2 * written_in d

-- the walk stands between two trees: those before it are written, and it knows the tree behind it
-- and the element around it
pub record IsWalk (walk : Walk) (trees : Hedge ℕ) (p : Option NodeId) (d : PlainDraft)
    : Type 0 where
  pub above : Above
  pub left : Hedge ℕ
  pub rest : Hedge ℕ
  pub trees_are : trees ≡ fill above (join left rest)
  pub draft_is : d ≡ begun_around above (done (erase left))
  pub at_is : walk.at ≡ first_id rest None
  pub parent_is : walk.parent ≡ parent_from above p

-- a walk that isn't over
pub record HasWalk (cells : List Cell) (walk : Walk) (d : PlainDraft) : Type 0 where
  pub run : RunLaid cells walk.run
  pub walk_is : IsWalk walk run.trees run.parent d
  pub goes_on : (walk.at ≡ None) × (depth d ≡ 0) → ⊥

-- the walk went on by a step
pub record WentOn (cells : List Cell) (walk next : Walk) (old new : PlainDraft) : Type 0 where
  pub same_run : next.run ≡ walk.run
  pub walk_is : (r : RunLaid cells walk.run) →
      IsWalk walk r.trees r.parent old → IsWalk next r.trees r.parent new
  pub fewer : steps_to (length cells) new < steps_to (length cells) old
