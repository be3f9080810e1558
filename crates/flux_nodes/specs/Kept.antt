-- What the cells of a table keep, and what the calls on cells do.
use Rattle.flux_nodes.specs.Tables.{times, times_in}
use Rattle.std.specs.Prelude.{◌≡◌, ◌⊎◌, ℕ, ◌+◌, ◌-◌, ◌<◌, ◌≤◌, length, drop, List, [], ◌∷◌, ◌++◌, cond, Option, Some, None}
use Rattle.std.specs.List.{slice_get, sum_by}
use Rattle.std.proofs.Math.ListN.{get_or, set}
use Rattle.flux_trees.specs.Hedge.{Hedge, nil, elem, size}
use Rattle.flux_nodes.specs.declared.cell.NodeId.{NodeId}
use Rattle.flux_nodes.specs.declared.cell.Kind.TheVariants.{Free}
use Rattle.flux_nodes.specs.declared.cell.Cell.{Cell}
use Rattle.flux_nodes.specs.declared.run.Run.{Run}
use Rattle.flux_nodes.specs.declared.run.Place.{Place}
use Rattle.flux_nodes.specs.Tables.{Meaning, trees_at, made_in}
use Rattle.flux_nodes.specs.Decoded.{is_kept, meaning_of}
use Rattle.flux_nodes.specs.Laid.{id, first_id, last_id, IsLaid, edit, with_next}
use Rattle.flux_trees.specs.Edits.{preceded}
use Rattle.flux_nodes.specs.Tables.{copies}
use Rattle.flux_nodes.specs.Laid.{numbers_of}
use Rattle.flux_nodes.specs.Seats.{IsDoc, Seat, seated, parent_of}

abbrev pub spare_head : List ℕ → Option NodeId
spare_head [] = None
spare_head (m ∷ ms) = Some (id m)

abbrev pub free_cell : Option NodeId → Cell
free_cell w =
    record { kind = Free; parent = None; prev = None; next = w; first = None; last = None }

abbrev pub IsSpare : List Cell → List ℕ → Type 0
IsSpare cells [] = Unit {0}
IsSpare cells (m ∷ ms) = (slice_get cells m ≡ Some (free_cell (spare_head ms))) × IsSpare cells ms

pub record HoldsRun (cells : List Cell) (i : ℕ) (h : Hedge ℕ) : Type 0 where
  pub laid : IsLaid cells None None h None
  pub begins : (h ≡ nil) ⊎ (first_id h None ≡ Some (id i))

-- the cells hold these forests and free cells, each cell once
pub record IsTable (cells : List Cell) (t e f : Option NodeId) (m : Meaning) : Type 0 where
  pub doc : IsDoc cells t e m.document
  pub runs_length : length m.unlinked ≡ length cells
  pub runs : (i : ℕ) → HoldsRun cells i (get_or m.unlinked i nil)
  pub spare : IsSpare cells m.spare
  pub spare_is : f ≡ spare_head m.spare
  pub once : (k : ℕ) → k < length cells →
      times k m.document + (sum_by (times k) m.unlinked + times_in k m.spare) ≡ 1
  pub all : size m.document + (sum_by size m.unlinked + length m.spare) ≡ length cells

-- a run of neighbouring siblings in a document
pub record RunSeat (d : Hedge ℕ) (run : Run) : Type 0 where
  pub seat : Seat
  pub trees : Hedge ℕ
  pub document_is : d ≡ seated seat trees
  pub first_is : first_id trees None ≡ Some run.first
  pub last_is : last_id trees None ≡ Some run.last

-- a place in a document
pub record PlaceSeat (d : Hedge ℕ) (place : Place) : Type 0 where
  pub seat : Seat
  pub document_is : d ≡ seated seat nil
  pub parent_is : place.parent ≡ parent_of seat.above
  pub after_is : place.after ≡ last_id seat.left None

-- an unlinked run from its first to its last
pub record IsLoose (m : Meaning) (run : Run) : Type 0 where
  pub some : get_or m.unlinked run.first.0 nil ≡ nil → ⊥
  pub last_is : last_id (get_or m.unlinked run.first.0 nil) None ≡ Some run.last

abbrev pub seat_unlink : Meaning → Run → Seat → Hedge ℕ → Meaning
seat_unlink m run s h =
    record { document = seated s nil; unlinked = set m.unlinked run.first.0 h; spare = m.spare }

abbrev pub seat_link : Meaning → Run → Seat → Meaning
seat_link m run s =
    record {
      document = seated s (trees_at m run);
      unlinked = set m.unlinked run.first.0 nil;
      spare = m.spare;
    }

-- a link names one of the cells, if any
abbrev pub IsWithin : Option NodeId → ℕ → Type 0
IsWithin None n = Unit {0}
IsWithin (Some m) n = m.0 < n

-- a table with this run in its document
pub record HasRun (cells : List Cell) (t e : Option NodeId) (run : Run) : Type 0 where
  pub meaning : Meaning
  pub free : Option NodeId
  pub table : IsTable cells t e free meaning
  pub at : RunSeat meaning.document run

-- a table with this place in its document, and with this unlinked run
pub record HasPlace (cells : List Cell) (t e : Option NodeId) (place : Place) (run : Run)
    : Type 0 where
  pub meaning : Meaning
  pub free : Option NodeId
  pub table : IsTable cells t e free meaning
  pub at : PlaceSeat meaning.document place
  pub loose : IsLoose meaning run

-- what follows v under p
abbrev pub Follows :
    List Cell → Option NodeId → Option NodeId → Option NodeId → Option NodeId → Type 0
Follows cells t p (Some v) r = (c : Cell) → slice_get cells v.0 ≡ Some c → r ≡ c.next
Follows cells t (Some p) None r = (c : Cell) → slice_get cells p.0 ≡ Some c → r ≡ c.first
Follows cells t None None r = r ≡ t

-- an element of a document
pub record ElementSeat (d : Hedge ℕ) (node : NodeId) : Type 0 where
  pub seat : Seat
  pub label : ℕ
  pub content : Hedge ℕ
  pub document_is : d ≡ seated seat (elem node.0 label content nil)

abbrev pub seat_label : Meaning → NodeId → ℕ → Seat → Hedge ℕ → Meaning
seat_label m node name s c =
    record { document = seated s (elem node.0 name c nil); unlinked = m.unlinked; spare = m.spare }

-- the cells that are not free
abbrev pub held : List Cell → ℕ
held [] = 0
held (c ∷ cs) = cond (is_kept c.kind) 1 0 + held cs

-- a table with this unlinked run
pub record HasLoose (cells : List Cell) (f : Option NodeId) (made : ℕ) (run : Run) : Type 0 where
  pub top : Option NodeId
  pub end : Option NodeId
  pub meaning : Meaning
  pub table : IsTable cells top end f meaning
  pub loose : IsLoose meaning run
  pub enough : size (trees_at meaning run) ≤ made

abbrev pub spliced : List Cell → Option NodeId → Option NodeId → List Cell
spliced cs None w = cs
spliced cs (Some q) w = edit (with_next w) q.0 cs

abbrev pub going_on : Option NodeId → Option NodeId → Option NodeId → Option NodeId
going_on None f w = w
going_on (Some q) f w = f

abbrev pub freed : List Cell → ℕ → Option NodeId → Option NodeId → Option NodeId → List Cell
freed cs m w f b = edit (λ _. free_cell (going_on b f w)) m (spliced cs b w)

-- what freeing a node does, where its content is to be freed next
abbrev pub IsFreed : List Cell → List Cell → ℕ → Option NodeId → Type 0
IsFreed cs bs m on =
    (c : Cell) → slice_get cs m ≡ Some c →
    (bs ≡ freed cs m c.next c.first c.last) × (on ≡ going_on c.last c.first c.next)

-- the free list
pub record HasSpare (cells : List Cell) (f : Option NodeId) : Type 0 where
  pub spare : List ℕ
  pub chain : IsSpare cells spare
  pub head_is : f ≡ spare_head spare

-- the first number of the free list is taken, or else that of a new cell
abbrev pub IsTaken : List Cell → List Cell → List ℕ → Option NodeId → NodeId → Type 0
IsTaken old new [] f node = (node.0 ≡ length old) × (new ≡ old ++ free_cell None ∷ []) × (f ≡ None)
IsTaken old new (m ∷ ms) f node = (node.0 ≡ m) × (new ≡ old) × (f ≡ spare_head ms)

-- the first k numbers are taken, where the free list was ms
pub record AreTaken (old new : List Cell) (ms : List ℕ) (f : Option NodeId)
    (numbers : List NodeId) (k : ℕ) : Type 0 where
  pub cells_are : new ≡ old ++ copies (k - length ms) (free_cell None)
  pub free_is : f ≡ spare_head (drop k ms)
  pub length_is : length numbers ≡ k
  pub numbers_are : (i : ℕ) → i < k → numbers_of numbers i ≡ preceded ms (λ j. length old + j) i

-- the parent, or else the tree before
abbrev pub before_at : Option NodeId → Option NodeId → Option NodeId
before_at (Some p) v = Some p
before_at None v = v

abbrev pub IsBefore : Cell → Option NodeId → Type 0
IsBefore c r = r ≡ before_at c.parent c.prev

-- the node is one of these trees, which are linked to no parent
pub record IsAmong (cells : List Cell) (node : ℕ) : Type 0 where
  pub trees : Hedge ℕ
  pub laid : IsLaid cells None None trees None
  pub here : 0 < times node trees
  pub fits : size trees ≤ length cells

-- what the fields of a table keep
pub record IsHeld (cells : List Cell) (t e f : Option NodeId) (made : ℕ) : Type 0 where
  pub table : IsTable cells t e f (meaning_of cells t f)
  pub made_is : made ≡ made_in (meaning_of cells t f)
