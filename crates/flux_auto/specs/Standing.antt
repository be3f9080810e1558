-- What the states of the automaton stand for: lists of types, matched one after another.
use Rattle.std.specs.Prelude.{◌≡◌, ◌⊎◌, ℕ, ◌<◌, ◌≤◌, List, [], ◌∷◌, ◌++◌, length, Option, Some, None, slice_get, Bool, true, false, ◌&&◌, ◌||◌, ◌↔◌}
use Rattle.flux_atom.specs.Atom.{kind_of}
use Rattle.flux_trees.specs.Hedge.{Plain, nil, elem, leaf, join}
use Rattle.flux_schema.specs.Ty.{Ty, empty, atom, element, any_element, seq, alt, star, named}
use Rattle.flux_schema.specs.Definitions.{Definitions, body_of}
use Rattle.flux_schema.specs.Member.{Member}
use Rattle.flux_schema.specs.Labels.{IsLabelOf}
use Rattle.flux_types.specs.Read.{ty_of}
use Rattle.flux_auto.specs.declared.edge.Edge.{Edge}
use Rattle.flux_auto.specs.declared.edge.Edge.TheVariants.{Atom, Elem, AnyElem}
use Rattle.flux_auto.specs.declared.table.Cell.{Cell}
use Rattle.flux_auto.specs.Takes.{has, EdgesBelow}

-- a member of each type, joined in order
abbrev pub In : Definitions → Plain → List Ty → Type 0
In defs z [] = z ≡ nil
In defs z (t ∷ k) = (v : Plain) × (w : Plain) × (join v w ≡ z) × Member defs v t × In defs w k

abbrev pub list_of : Option (List Ty) → List Ty
list_of None = []
list_of (Some k) = k

-- the list at an index
abbrev pub at : List (List Ty) → ℕ → List Ty
at ts i = list_of (slice_get ts i)

-- the lists of the cells, after those that are there: the type of a cell, and the list of its tail
abbrev pub lists_after : List (List Ty) → List Cell → List (List Ty)
lists_after ts [] = ts
lists_after ts (c ∷ cs) = lists_after (ts ++ (ty_of c.head ∷ at ts c.tail) ∷ []) cs

-- the list that each state stands for
abbrev pub lists : List Cell → List (List Ty)
lists cs = lists_after [] cs

-- the forest begins with the edge's tree, and what follows is in the lists of the edge's states
abbrev pub Follows : Definitions → List (List Ty) → Edge → Plain → Type 0
Follows defs ts e nil = ⊥
Follows defs ts (Elem n c r) (elem _ a v w) = (n ≡ a) × In defs v (at ts c) × In defs w (at ts r)
Follows defs ts (Elem n c r) (leaf _ x w) = ⊥
Follows defs ts (AnyElem c r) (elem _ a v w) = In defs v (at ts c) × In defs w (at ts r)
Follows defs ts (AnyElem c r) (leaf _ x w) = ⊥
Follows defs ts (Atom k r) (elem _ a v w) = ⊥
Follows defs ts (Atom k r) (leaf _ x w) = (k ≡ kind_of x) × In defs w (at ts r)

-- some edge does
abbrev pub FollowsAny : Definitions → List (List Ty) → List Edge → Plain → Type 0
FollowsAny defs ts [] z = ⊥
FollowsAny defs ts (e ∷ es) z = Follows defs ts e z ⊎ FollowsAny defs ts es z

-- the forest is a member of t that isn't empty, and then one of the list
abbrev pub Starts : Definitions → Ty → List Ty → Plain → Type 0
Starts defs t k z =
    (v : Plain) × (w : Plain) × (join v w ≡ z) × (v ≡ nil → ⊥) × Member defs v t × In defs w k

-- whether a type is nullable, has the empty forest as a member, where q tells it of the names
abbrev pub is_nullable : (ℕ → Bool) → Ty → Bool
is_nullable q empty = true
is_nullable q (atom k) = false
is_nullable q (element n t) = false
is_nullable q (any_element t) = false
is_nullable q (seq t u) = is_nullable q t && is_nullable q u
is_nullable q (alt t u) = is_nullable q t || is_nullable q u
is_nullable q (star t) = true
is_nullable q (named x) = q x

-- the truth values tell of each name whether it is nullable
abbrev pub TellsNullable : Definitions → List Bool → Type 0
TellsNullable defs nullable = (x : ℕ) → (has nullable x ≡ true) ↔ Member defs nil (named x)

-- the state stands for the type alone
pub record IsContent (cs : List Cell) (s : ℕ) (t : Ty) : Type 0 where
  pub later : 1 ≤ s
  pub cell : Cell
  pub is : slice_get cs s ≡ Some cell
  pub head_is : ty_of cell.head ≡ t
  pub tail_is : cell.tail ≡ 0

-- some state does
abbrev pub HasContent : List Cell → Ty → Type 0
HasContent cs t = (s : ℕ) × IsContent cs s t

-- the content of each element that stands in the type outside others has a state, and each name
-- there is below n
abbrev pub Ready : ℕ → List Cell → Ty → Type 0
Ready n cs empty = Unit {0}
Ready n cs (atom k) = Unit {0}
Ready n cs (element m t) = HasContent cs t
Ready n cs (any_element t) = HasContent cs t
Ready n cs (seq t u) = Ready n cs t × Ready n cs u
Ready n cs (alt t u) = Ready n cs t × Ready n cs u
Ready n cs (star t) = Ready n cs t
Ready n cs (named x) = x < n

-- so it is with the body of each definition
abbrev pub BodiesReady : Definitions → List Cell → Type 0
BodiesReady defs cs = (x : ℕ) (t : Ty) → body_of defs x ≡ Some t → Ready (length defs) cs t

-- the label stands in the type of a cell
abbrev pub IsHeadLabel : List Cell → ℕ → Type 0
IsHeadLabel cs n = (s : ℕ) × (c : Cell) × (slice_get cs s ≡ Some c) × IsLabelOf n (ty_of c.head)

-- or it stands in the body of a definition
abbrev pub IsBodyLabel : Definitions → ℕ → Type 0
IsBodyLabel defs n = (x : ℕ) × (t : Ty) × (body_of defs x ≡ Some t) × IsLabelOf n t

abbrev pub IsTableLabel : Definitions → List Cell → ℕ → Type 0
IsTableLabel defs cs n = IsBodyLabel defs n ⊎ IsHeadLabel cs n

-- so it is with each label of the type
abbrev pub LabelsStand : Definitions → List Cell → Ty → Type 0
LabelsStand defs cs t = (n : ℕ) → IsLabelOf n t → IsTableLabel defs cs n

-- so it is with the label of each edge by an element
abbrev pub EdgeLabelled : Definitions → List Cell → Edge → Type 0
EdgeLabelled defs cs (Atom k r) = Unit {0}
EdgeLabelled defs cs (Elem n c r) = IsTableLabel defs cs n
EdgeLabelled defs cs (AnyElem c r) = Unit {0}

abbrev pub EdgesLabelled : Definitions → List Cell → List Edge → Type 0
EdgesLabelled defs cs [] = Unit {0}
EdgesLabelled defs cs (e ∷ es) = EdgeLabelled defs cs e × EdgesLabelled defs cs es

-- edges of a type and then the list of a state: they go by just the forests that begin with the
-- type
pub record Reads (defs : Definitions) (cs : List Cell) (t : Ty) (tail : ℕ)
    (es : List Edge) : Type 0 where
  pub tail_below : tail < length cs
  pub below : EdgesBelow (length cs) es
  pub labels : EdgesLabelled defs cs es
  pub sound : (z : Plain) → FollowsAny defs (lists cs) es z → Starts defs t (at (lists cs) tail) z
  pub complete : (z : Plain) → Starts defs t (at (lists cs) tail) z
      → FollowsAny defs (lists cs) es z
