-- The meaning of a vector of cells, read along its links. No walk is longer than the vector.
use Rattle.std.specs.Prelude.{ℕ, ◌+◌, length, List, [], ◌∷◌, Bool, true, false, ◌&&◌, cond, eqb, Option, Some, None}
use Rattle.std.proofs.Common.{zero, suc}
use Rattle.std.specs.List.{slice_get}
use Rattle.flux_trees.specs.Hedge.{Hedge, nil, elem, leaf}
use Rattle.flux_nodes.specs.declared.cell.NodeId.{NodeId}
use Rattle.flux_nodes.specs.declared.cell.Kind.{Kind}
use Rattle.flux_nodes.specs.declared.cell.Kind.TheVariants.{Elem, Leaf, Free}
use Rattle.flux_nodes.specs.declared.cell.Cell.{Cell}
use Rattle.flux_nodes.specs.Tables.{Meaning}
use Rattle.flux_nodes.specs.Laid.{id}

-- the trees of a node with this content and with these trees behind it; none where the cell is free
abbrev pub grown : ℕ → Kind → Hedge ℕ → Hedge ℕ → Hedge ℕ
grown m (Elem a) c r = elem m a c r
grown m (Leaf x) c r = leaf m x r
grown m Free c r = nil

-- the same, where the trees at a link are those that `go` gives
abbrev pub grow : ℕ → Option Cell → (Option NodeId → Hedge ℕ) → Hedge ℕ
grow m None go = nil
grow m (Some c) go = grown m c.kind (go c.first) (go c.next)

-- the trees from a link on, to so many cells deep
abbrev pub hedge_from : List Cell → ℕ → Option NodeId → Hedge ℕ
hedge_from cells zero o = nil
hedge_from cells (suc k) None = nil
hedge_from cells (suc k) (Some m) = grow m.0 (slice_get cells m.0) (λ o. hedge_from cells k o)

abbrev pub is_none : Option NodeId → Bool
is_none None = true
is_none (Some m) = false

abbrev pub is_id : Option NodeId → ℕ → Bool
is_id None i = false
is_id (Some m) i = eqb m.0 i

abbrev pub is_kept : Kind → Bool
is_kept (Elem a) = true
is_kept (Leaf x) = true
is_kept Free = false

-- a node without a parent and without a tree before it
abbrev pub is_alone : Cell → Bool
is_alone c = is_kept c.kind && (is_none c.parent && is_none c.prev)

-- an unlinked run begins at the cell: it stands alone, and isn't the first of the document
abbrev pub begins : Option NodeId → ℕ → Cell → Bool
begins t i c = cond (is_id t i) false (is_alone c)

abbrev pub run_at : List Cell → Option NodeId → ℕ → Cell → Hedge ℕ
run_at all t i c = cond (begins t i c) (hedge_from all (length all) (Some (id i))) nil

-- the run that begins at each cell, where `all` are the cells, and i is the place of the first
abbrev pub runs_from : List Cell → Option NodeId → ℕ → List Cell → List (Hedge ℕ)
runs_from all t i [] = []
runs_from all t i (c ∷ cs) = run_at all t i c ∷ runs_from all t (i + 1) cs

abbrev pub next_in : Option Cell → Option NodeId
next_in None = None
next_in (Some c) = c.next

-- the free cells from a link on
abbrev pub spare_from : List Cell → ℕ → Option NodeId → List ℕ
spare_from cells zero o = []
spare_from cells (suc k) None = []
spare_from cells (suc k) (Some m) = m.0 ∷ spare_from cells k (next_in (slice_get cells m.0))

-- what the cells hold, where t is the first tree of the document and f the first free cell
abbrev pub meaning_of : List Cell → Option NodeId → Option NodeId → Meaning
meaning_of cells t f = record {
  document = hedge_from cells (length cells) t;
  unlinked = runs_from cells t 0 cells;
  spare = spare_from cells (length cells) f;
}
