-- How the states of an automaton are made.
use Rattle.std.specs.Prelude.{◌≡◌, ◌⊎◌, ℕ, ◌<◌, ◌≤◌, List, [], ◌∷◌, ◌++◌, length, Some, slice_get, Bool, true, ◌↔◌, map}
use Rattle.flux_trees.specs.Hedge.{Plain, nil}
use Rattle.flux_schema.specs.Ty.{Ty, empty, NamesBelow}
use Rattle.flux_schema.specs.Definitions.{Definitions}
use Rattle.flux_schema.specs.Member.{Member}
use Rattle.flux_schema.specs.Labels.{IsLabelOf}
use Rattle.flux_types.specs.Read.{ty_of}
use Rattle.flux_auto.specs.declared.edge.Edge.{Edge}
use Rattle.flux_auto.specs.declared.table.Cell.{Cell}
use Rattle.flux_auto.specs.declared.table.Row.{Row}
use Rattle.flux_auto.specs.declared.table.Table.{Table}
use Rattle.flux_auto.specs.Takes.{State, EdgesBelow}
use Rattle.flux_auto.specs.Standing.{In, at, lists, FollowsAny, TellsNullable, Ready, BodiesReady, IsHeadLabel, IsBodyLabel, IsTableLabel, EdgesLabelled, Reads, IsContent}

-- a row for each cell
abbrev pub IsEven : Table → Type 0
IsEven a = length a.rows.items ≡ length a.cells.items

-- the cells stay, and so do the first n rows
pub record Grows (n : ℕ) (a b : Table) : Type 0 where
  pub more : List Cell
  pub cells : b.cells.items ≡ a.cells.items ++ more
  pub rows : (s : ℕ) → s < n → slice_get b.rows.items s ≡ slice_get a.rows.items s
  pub longer : n ≤ length b.rows.items

-- a state more
pub record Put (a b : Table) (head : Ty) (tail : ℕ) (ends : Bool) (edges : List Edge)
    (s : ℕ) : Type 0 where
  pub state : s ≡ length a.cells.items
  pub cell : Cell
  pub row : Row
  pub head_is : ty_of cell.head ≡ head
  pub tail_is : cell.tail ≡ tail
  pub ends_is : row.ends ≡ ends
  pub edges_are : row.edges.items ≡ edges
  pub cells : b.cells.items ≡ a.cells.items ++ cell ∷ []
  pub rows : b.rows.items ≡ a.rows.items ++ row ∷ []

-- the row of one state replaced
pub record IsSet (a b : Table) (s : ℕ) (ends : Bool) (edges : List Edge) : Type 0 where
  pub row : Row
  pub ends_is : row.ends ≡ ends
  pub edges_are : row.edges.items ≡ edges
  pub cells : b.cells.items ≡ a.cells.items
  pub here : slice_get b.rows.items s ≡ Some row
  pub others : (i : ℕ) → (i ≡ s → ⊥) → slice_get b.rows.items i ≡ slice_get a.rows.items i
  pub same_length : length b.rows.items ≡ length a.rows.items

-- the first state is the end, and what types are read with is there
pub record IsGround (defs : Definitions) (nullable : List Bool) (a : Table) : Type 0 where
  pub even : IsEven a
  pub end : at (lists a.cells.items) 0 ≡ empty ∷ []
  pub tells : TellsNullable defs nullable
  pub bodies : BodiesReady defs a.cells.items

-- a row that has the edges of its cell's type alone: the tail's aren't added yet
pub record IsOwn (defs : Definitions) (cs : List Cell) (s : ℕ) (r : Row) : Type 0 where
  pub cell : Cell
  pub is : slice_get cs s ≡ Some cell
  pub older : cell.tail < s
  pub reads : Reads defs cs (ty_of cell.head) cell.tail r.edges.items
  pub ends : (r.ends ≡ true) ↔ Member defs nil (ty_of cell.head)

-- a row that has all edges of its state
pub record IsClosed (defs : Definitions) (cs : List Cell) (s : ℕ) (r : Row) : Type 0 where
  pub below : EdgesBelow (length cs) r.edges.items
  pub labels : EdgesLabelled defs cs r.edges.items
  pub sound : (z : Plain) → FollowsAny defs (lists cs) r.edges.items z → In defs z (at (lists cs) s)
  pub complete : (z : Plain) → (z ≡ nil → ⊥) → In defs z (at (lists cs) s)
      → FollowsAny defs (lists cs) r.edges.items z
  pub ends : (r.ends ≡ true) ↔ In defs nil (at (lists cs) s)

-- the rows from n on have their own edges
abbrev pub OwnFrom : Definitions → ℕ → Table → Type 0
OwnFrom defs n b =
    (s : ℕ) (r : Row) → n ≤ s → slice_get b.rows.items s ≡ Some r → IsOwn defs b.cells.items s r

-- no label stands in the second table that doesn't in the first
abbrev pub NoNewLabels : Definitions → Table → Table → Type 0
NoNewLabels defs a b =
    (n : ℕ) → IsTableLabel defs b.cells.items n → IsTableLabel defs a.cells.items n

-- no label stands in its cells that doesn't in those of the first, or in the type
abbrev pub LabelsFrom : Table → Table → Ty → Type 0
LabelsFrom a b t =
    (n : ℕ) → IsHeadLabel b.cells.items n → IsHeadLabel a.cells.items n ⊎ IsLabelOf n t

-- what reading a type gives: states more, and edges
pub record Linear (defs : Definitions) (a b : Table) (t : Ty) (tail : ℕ)
    (es : List Edge) : Type 0 where
  pub even : IsEven b
  pub own : OwnFrom defs (length a.rows.items) b
  pub reads : Reads defs b.cells.items t tail es
  pub labels : NoNewLabels defs a b

-- a cell that stands for a type alone, whose contents have states
pub record IsFresh (n : ℕ) (cs : List Cell) (c : Cell) : Type 0 where
  pub tail : c.tail ≡ 0
  pub ready : Ready n cs (ty_of c.head)

-- each cell from i on is such a cell
abbrev pub FreshFrom : ℕ → ℕ → List Cell → Type 0
FreshFrom n i cs = (s : ℕ) (c : Cell) → i ≤ s → slice_get cs s ≡ Some c → IsFresh n cs c

-- the contents of a type, at any depth, have states
pub record Registered (a b : Table) (t : Ty) : Type 0 where
  pub even : IsEven b
  pub ready : (n : ℕ) → NamesBelow n t → Ready n b.cells.items t
  pub fresh : (n : ℕ) → NamesBelow n t → FreshFrom n (length a.cells.items) b.cells.items
  pub labels : LabelsFrom a b t

-- a type has a state; what is new stands for types alone
pub record PutContent (a b : Table) (t : Ty) (s : ℕ) : Type 0 where
  pub even : IsEven b
  pub content : IsContent b.cells.items s t
  pub fresh : (n : ℕ) → Ready n a.cells.items t → FreshFrom n (length a.cells.items) b.cells.items
  pub labels : LabelsFrom a b t

-- the states that a table's rows are
abbrev pub state_of : Row → State
state_of r = record { ends = r.ends; edges = r.edges.items }

abbrev pub states_of : Table → List State
states_of a = map state_of a.rows.items

-- the rows below n have all edges of their states
abbrev pub ClosedBelow : Definitions → ℕ → Table → Type 0
ClosedBelow defs n a =
    (s : ℕ) (r : Row) → s < n → slice_get a.rows.items s ≡ Some r → IsClosed defs a.cells.items s r

-- the state stands for a type alone, whose contents have states
pub record Awaits (n : ℕ) (cs : List Cell) (s : ℕ) : Type 0 where
  pub later : 1 ≤ s
  pub cell : Cell
  pub is : slice_get cs s ≡ Some cell
  pub fresh : IsFresh n cs cell

-- it has the edges of its type, as has each state that was added; the other rows are as they were
pub record Filled (defs : Definitions) (a b : Table) (s : ℕ) : Type 0 where
  pub even : IsEven b
  pub more : List Cell
  pub cells : b.cells.items ≡ a.cells.items ++ more
  pub others : (i : ℕ) → i < length a.rows.items → (i ≡ s → ⊥)
      → slice_get b.rows.items i ≡ slice_get a.rows.items i
  pub own : (i : ℕ) (r : Row) → (i ≡ s) ⊎ (length a.rows.items ≤ i)
      → slice_get b.rows.items i ≡ Some r → IsOwn defs b.cells.items i r
  pub labels : NoNewLabels defs a b

-- it has all its edges; the other rows are as they were
pub record Closed (defs : Definitions) (a b : Table) (s : ℕ) : Type 0 where
  pub cells : b.cells.items ≡ a.cells.items
  pub same_length : length b.rows.items ≡ length a.rows.items
  pub others : (i : ℕ) → (i ≡ s → ⊥) → slice_get b.rows.items i ≡ slice_get a.rows.items i
  pub closed : (r : Row) → slice_get b.rows.items s ≡ Some r → IsClosed defs b.cells.items s r

-- each row has all edges of its state
pub record IsComplete (defs : Definitions) (nullable : List Bool) (a : Table) : Type 0 where
  pub ground : IsGround defs nullable a
  pub closed : ClosedBelow defs (length a.cells.items) a

-- the end alone
pub record IsBegun (a : Table) : Type 0 where
  pub even : IsEven a
  pub one : length a.cells.items ≡ 1
  pub end : at (lists a.cells.items) 0 ≡ empty ∷ []
  pub bare : (n : ℕ) → ¬ (IsHeadLabel a.cells.items n)
  pub closed : (defs : Definitions) → ClosedBelow defs 1 a

-- the labels of its cells are those of the bodies
abbrev pub LabelsOfBodies : Definitions → Table → Type 0
LabelsOfBodies defs a = (n : ℕ) → IsTableLabel defs a.cells.items n → IsBodyLabel defs n

-- the labels of the table are those of an older one, and of a type
abbrev pub LabelsMore : Definitions → Table → Table → Ty → Type 0
LabelsMore defs a b t = (n : ℕ)
    → IsTableLabel defs b.cells.items n → IsTableLabel defs a.cells.items n ⊎ IsLabelOf n t

-- a table with a state of a type
pub record Extended (defs : Definitions) (nullable : List Bool) (a : Table) (t : Ty)
    (s : ℕ) : Type 0 where
  pub complete : IsComplete defs nullable a
  pub content : IsContent a.cells.items s t
