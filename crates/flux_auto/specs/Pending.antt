-- What is still to be read of a type, and what it comes to.
use Rattle.std.specs.Prelude.{◌≡◌, ℕ, ◌+◌, ◌<◌, ◌≤◌, ◌↔◌, List, [], ◌∷◌, ◌++◌, length, take, drop, Bool, true, cond, Some}
use Rattle.flux_trees.specs.Hedge.{nil}
use Rattle.flux_schema.specs.Ty.{Ty, empty, atom, element, any_element, seq, alt, star, named}
use Rattle.flux_schema.specs.Definitions.{Definitions, body_of, IsGood}
use Rattle.flux_schema.specs.Member.{Member}
use Rattle.flux_types.specs.Read.{ty_of}
use Rattle.flux_auto.specs.declared.edge.Edge.{Edge}
use Rattle.flux_auto.specs.declared.table.Table.{Table}
use Rattle.flux_auto.specs.declared.linear.Pair.{Pair}
use Rattle.flux_auto.specs.declared.linear.Task.{Task}
use Rattle.flux_auto.specs.declared.linear.Task.TheVariants.{Read, First, Row}
use Rattle.flux_auto.specs.declared.linear.Work.{Work}
use Rattle.flux_auto.specs.Takes.{has}
use Rattle.flux_auto.specs.Standing.{Ready, LabelsStand, is_nullable}
use Rattle.flux_auto.specs.Built.{Grows, Put, IsSet, IsEven, Linear}

-- An aim is what is to hold of a table and of the edges that were found.

-- a type is read before a state: whatever edges it gives, the aim holds with them
pub record ComesType (defs : Definitions) (t : Ty) (tail : ℕ) (aim : Table → List Edge → Type 0)
    (a : Table) (es : List Edge) : Type 0 where
  pub ready : Ready (length defs) a.cells.items t
  pub labels : LabelsStand defs a.cells.items t
  pub there : tail < length a.cells.items
  pub meets : (b : Table) (more : List Edge) → Grows (length a.rows.items) a b
      → Linear defs a b t tail more → aim b (es ++ more)

-- the first part of a sequence is read before a new state, which has the edges from a place on:
-- the aim holds with its edges, and with those of the second part where the first is nullable
pub record ComesFirst (defs : Definitions) (t u : Ty) (tail from : ℕ)
    (aim : Table → List Edge → Type 0) (a : Table) (es : List Edge) : Type 0 where
  pub ready : Ready (length defs) a.cells.items t
  pub labels : LabelsStand defs a.cells.items t
  pub there : tail < length a.cells.items
  pub within : from ≤ length es
  pub meets : (b c : Table) (s : ℕ) (ends nulls : Bool) (first : List Edge)
      → Put a b u tail ends (drop from es) s
      → (ends ≡ true) ↔ Member defs nil u → (nulls ≡ true) ↔ Member defs nil t
      → Grows (length b.rows.items) b c → Linear defs b c t s first
      → aim c (cond nulls es (take from es) ++ first)

-- a state from n on is given the edges from a place on: the aim holds then
pub record ComesRow (n s from : ℕ) (aim : Table → List Edge → Type 0) (a : Table)
    (es : List Edge) : Type 0 where
  pub late : n ≤ s
  pub there : s < length a.rows.items
  pub within : from ≤ length es
  pub meets : (b : Table) → IsSet a b s true (drop from es) → aim b es

-- the aim holds when the task is done
abbrev pub Comes : Definitions → ℕ → Task → (Table → List Edge → Type 0) → Table → List Edge
    → Type 0
Comes defs n (Read t k) aim = ComesType defs (ty_of t.now) k aim
Comes defs n (First p) aim =
    ComesFirst defs (ty_of p.left.now) (ty_of p.right.now) p.next p.from aim
Comes defs n (Row s i) aim = ComesRow n s i aim

-- the aim holds when all tasks are done, the last first
abbrev pub AllCome : Definitions → ℕ → List Task → (Table → List Edge → Type 0) → Table → List Edge
    → Type 0
AllCome defs n [] aim = aim
AllCome defs n (k ∷ ks) aim = AllCome defs n ks (Comes defs n k aim)

-- ---- how many tasks there are

-- what a type takes, where f tells it of the names
abbrev pub effort : (ℕ → ℕ) → Ty → ℕ
effort f empty = 1
effort f (atom k) = 1
effort f (element n t) = 1
effort f (any_element t) = 1
effort f (seq t u) = effort f t + effort f u + 3
effort f (alt t u) = effort f t + effort f u + 3
effort f (star t) = effort f t + 3
effort f (named x) = f x

-- what a task takes
abbrev pub task_effort : (ℕ → ℕ) → Task → ℕ
task_effort f (Read t k) = effort f (ty_of t.now)
task_effort f (First p) = effort f (ty_of p.left.now) + 1
task_effort f (Row s i) = 1

abbrev pub all_effort : (ℕ → ℕ) → List Task → ℕ
all_effort f [] = 0
all_effort f (k ∷ ks) = task_effort f k + all_effort f ks

-- a name takes more than its body, where the definitions are good
abbrev pub IsEffort : Definitions → (ℕ → ℕ) → Type 0
IsEffort defs f = IsGood defs → (x : ℕ) (t : Ty) → body_of defs x ≡ Some t → effort f t < f x

-- ---- a step

-- the edges that were there and then those of the type
pub record HasRead (defs : Definitions) (t : Ty) (tail : ℕ) (a : Table) (old : List Edge)
    (b : Table) (all : List Edge) : Type 0 where
  pub grows : Grows (length a.rows.items) a b
  pub more : List Edge
  pub edges : all ≡ old ++ more
  pub linear : Linear defs a b t tail more

-- tasks were added, fewer than the type takes, which come to the edges of the type
pub record Opens (defs : Definitions) (t : Ty) (tail : ℕ) (a : Table) (v : Work) (b : Table)
    (w : Work) : Type 0 where
  pub even : IsEven b
  pub more : List Task
  pub tasks : w.tasks.items ≡ v.tasks.items ++ more
  pub come : AllCome defs (length a.rows.items) more
      (HasRead defs t tail a v.edges.items) b w.edges.items
  pub fewer : (f : ℕ → ℕ) → IsEffort defs f → all_effort f more < effort f t

-- a state was put for the second part of a sequence, whose edges stay where the first part is
-- nullable, and the first part is to be read before it
pub record PutsSecond (nullable : List Bool) (p : Pair) (a : Table) (v : Work) (b : Table)
    (w : Work) : Type 0 where
  pub state : ℕ
  pub put : Put a b (ty_of p.right.now) p.next (is_nullable (has nullable) (ty_of p.right.now))
      (drop p.from v.edges.items) state
  pub edges : w.edges.items ≡ cond (is_nullable (has nullable) (ty_of p.left.now)) v.edges.items
      (take p.from v.edges.items)
  pub tasks : w.tasks.items ≡ v.tasks.items ++ Read p.left state ∷ []

-- a state was given the edges from a place on
abbrev pub FillsRow : Table → Table → List Edge → ℕ → ℕ → Type 0
FillsRow a b es s from = IsSet a b s true (drop from es)
